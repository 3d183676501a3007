-- Records with prefixes of their surfaces.
use Rattle.mj_model.specs.declared.entry.Record.{Record}
use Rattle.lex_source.specs.declared.prefixed_record.PrefixedRecord.{PrefixedRecord}

-- the record without the prefix
abbrev pub without_prefix : PrefixedRecord → Record
without_prefix headed = headed.row
