-- Lists of unknown entries, and the reading of `unk.def` line by line.
use Rattle.std.specs.Prelude.{◌≡◌, ℕ, ◌+◌, false, List, ◌++◌, length, map}
use Rattle.std.specs.declared.alloc.Global.{Global}
use Rattle.std.specs.declared.vec.Vec.{Vec}
use Rattle.mj_model.specs.declared.entry.Record.{Record}
use Rattle.mj_model.specs.Lexicon.{Row, rows_of}
use Rattle.mj_model.specs.CharDef.{NamedCategory}
use Rattle.mj_model.specs.UnkDef.{unk_outcome, rows_by_category}
use Rattle.lex_source.specs.Steps.{IsReadLine, IsReadUpTo}

-- the rows in the lists of each category
abbrev pub lists_are : List (Vec Record Global) → List (List Row)
lists_are lists = map (λ list. rows_of list.items) lists

-- the rows that a line adds after `held` rows
pub record HasAdded (categories : List NamedCategory) (number : ℕ) (text : List ℕ) (held now : ℕ) (old new : List (Vec Record Global)) : Type 0 where
  pub more : List Row
  pub taken : IsReadLine (unk_outcome categories) number text held false more
  pub counted : now ≡ held + length more
  pub added : (rows : List Row) → lists_are old ≡ rows_by_category categories rows → lists_are new ≡ rows_by_category categories (rows ++ more)

-- the lines before `left` are not rejected, and their rows are in the lists
pub record HasReadUnk (categories : List NamedCategory) (all left : List (ℕ × List ℕ)) (held : ℕ) (lists : List (Vec Record Global)) : Type 0 where
  pub held_rows : List Row
  pub read : IsReadUpTo (unk_outcome categories) 0 all left held_rows 0
  pub held_is : held ≡ length held_rows
  pub lists_is : lists_are lists ≡ rows_by_category categories held_rows
