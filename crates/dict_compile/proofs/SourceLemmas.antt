-- From the files' readings to those of all sources.
use Rattle.std.proofs.Common.{◌≡◌, List, [], ◌∙◌, subst, inl, inr}
use Rattle.std.specs.Prelude.{Result, Ok, Err}
use Rattle.mj_model.specs.declared.source_fault.SourceFault.{SourceFault}
use Rattle.mj_model.specs.declared.sources.Sources.{Sources}
use Rattle.mj_model.specs.CharDef.{CharSource, NamedCategory, char_source}
use Rattle.mj_model.specs.declared.matrix_sizes.MatrixSizes.{MatrixSizes}
use Rattle.mj_model.specs.Connection.{Connection, connection_of}
use Rattle.mj_model.specs.Dictionary.{AreLexicons}
use Rattle.mj_model.specs.FirstFault.{IsMemoryOr}
use Rattle.mj_model.specs.Lexicon.{Row}
use Rattle.mj_model.specs.SourceTables.{IsSourcesFault, lexicon_bytes}
use Rattle.mj_model.specs.UnkDef.{IsUnkWithin}
use Rattle.matrix_def.specs.Costs.{CostTable, IsTableOf as IsCostTableOf}
use Rattle.char_def.specs.Categories.{CharCategories, IsTableOf}

module _ (s : Sources) (m : CostTable) (sizes : MatrixSizes) (is_sizes : sizes ≡ m.sizes)
    (table : (c : Connection) × (connection_of s.matrix.now ≡ Ok c) × IsCostTableOf c m) where
  same_sizes : sizes ≡ table.0.sizes
  same_sizes = is_sizes ∙ table.2.sizes

  pub rows_read : (read : Result (List Row) SourceFault) → AreLexicons sizes 3 [] (lexicon_bytes s) read → AreLexicons table.0.sizes 3 [] (lexicon_bytes s) read
  rows_read read h = subst (λ sizes. AreLexicons sizes 3 [] (lexicon_bytes s) read) same_sizes h

  -- char.def is invalid
  pub chars_at_fault : (fault : SourceFault) → IsMemoryOr fault (char_source s.chars.now ≡ Err fault) → IsMemoryOr fault (IsSourcesFault s fault)
  chars_at_fault fault (inl memory) = inl memory
  chars_at_fault fault (inr h) = inr (inr (inl (table.0, table.1, h)))

  module _ (chars : CharCategories) (read : (source : CharSource) × (char_source s.chars.now ≡ Ok source) × IsTableOf source chars) where
    pub unknown_read : (unknown : Result (List (List Row)) SourceFault) → IsUnkWithin sizes chars.categories s.unk.now unknown → IsUnkWithin table.0.sizes read.0.categories s.unk.now unknown
    unknown_read unknown h =
        subst (λ (categories : List NamedCategory). IsUnkWithin table.0.sizes categories s.unk.now unknown) read.2.categories
        (subst (λ sizes. IsUnkWithin sizes chars.categories s.unk.now unknown) same_sizes h)

    -- unk.def is invalid
    pub unknown_at_fault : (fault : SourceFault) → IsMemoryOr fault (IsUnkWithin sizes chars.categories s.unk.now (Err fault)) → IsMemoryOr fault (IsSourcesFault s fault)
    unknown_at_fault fault (inl memory) = inl memory
    unknown_at_fault fault (inr h) = inr (inr (inr (inl (table.0, read.0, table.1, read.1, unknown_read (Err fault) h))))

    module _ (unknown : List (List Row)) (accepted : IsUnkWithin sizes chars.categories s.unk.now (Ok unknown)) where
      -- a lexicon is invalid
      pub lexicons_at_fault : (fault : SourceFault) → IsMemoryOr fault (AreLexicons sizes 3 [] (lexicon_bytes s) (Err fault)) → IsMemoryOr fault (IsSourcesFault s fault)
      lexicons_at_fault fault (inl memory) = inl memory
      lexicons_at_fault fault (inr h) = inr (inr (inr (inr (table.0, read.0, unknown, table.1, read.1, unknown_read (Ok unknown) accepted, rows_read (Err fault) h))))
