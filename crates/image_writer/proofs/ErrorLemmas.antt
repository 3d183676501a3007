-- The errors of tokens and features are errors of an image's writer.
use Rattle.std.proofs.Common.{List, inl, inr}
use Rattle.mj_model.specs.declared.source_fault.SourceKind.{SourceKind}
use Rattle.mj_model.specs.Lexicon.{Row}
use Rattle.image_writer.specs.WriterErrors.{FullOnlyFor, IsTokenFault, IsWriterFault}

pub is_writer_fault : (fault : SourceKind) → IsTokenFault fault → IsWriterFault fault
is_writer_fault fault (inl memory) = inl memory
is_writer_fault fault (inr large) = inr (inr large)

pub is_not_full : (rows : List Row) (fault : SourceKind) → IsTokenFault fault → FullOnlyFor rows fault
is_not_full rows fault (inl memory) = λ full. absurd (cc)
is_not_full rows fault (inr large) = λ full. absurd (cc)
