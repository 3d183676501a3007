-- The state of a reader of `matrix.def` after some bytes.
use Rattle.std.specs.Prelude.{◌≡◌, ℕ, ◌*◌, ◌-◌, ◌^◌, min, nat_le, true, false, List, [], ◌∷◌, ◌++◌, length, map, Some, Result, Ok, Err}
use Rattle.std.specs.List.{enumerate_from, list_any}
use Rattle.mj_model.specs.declared.limits.TheConstants.{MATRIX_CELLS_MAX}
use Rattle.mj_model.specs.declared.source_fault.SourceFault.{SourceFault}
use Rattle.mj_model.specs.Bytes.{is_line_feed}
use Rattle.mj_model.specs.Connection.{Connection, connection_from, sizes_from, words_of}
use Rattle.mj_model.specs.Lines.{source_lines}
use Rattle.lex_source.specs.NonblankLines.{nonblank_lines}
use Rattle.matrix_def.specs.Costs.{CostTable, IsMatrix, IsTableOf}
use Rattle.matrix_def.specs.Rows.{IsFilledBy}
use Rattle.matrix_def.specs.declared.reader_state.ReaderState.{ReaderState}
use Rattle.matrix_def.specs.declared.reader_state.ReaderState.TheVariants.{Header, Rows, Rejected}

-- the number that is reported for a line: at most 2^64 - 1, as far as the reader counts
abbrev pub reported_number : ℕ → ℕ
reported_number n = min n (2 ^ 64 - 1)

-- lines with their reported numbers, from number n on
abbrev pub reported_lines : ℕ → List (List ℕ) → List (ℕ × List ℕ)
reported_lines n lines = map (λ line. (reported_number line.0, line.1)) (enumerate_from n lines)

-- the contents of the bytes of a `matrix.def`, or their first error with its reported line number
abbrev pub reported_connection : List ℕ → Result Connection SourceFault
reported_connection bytes = connection_from (nonblank_lines (reported_lines 1 (source_lines bytes)))

-- no byte is a line feed
abbrev pub HasNoFeed : List ℕ → Type 0
HasNoFeed bytes = list_any is_line_feed bytes ≡ false

-- a numbered line, or nothing if it is blank
abbrev pub row_of : ℕ → List ℕ → List (ℕ × List ℕ)
row_of number bytes = nonblank_lines (enumerate_from number (source_lines bytes))

-- lines that are not blank: a header, and valid rows that fill the table
pub record Fill (lines : List (ℕ × List ℕ)) (m : CostTable) : Type 0 where
  pub header : ℕ × List ℕ
  pub rows : List (ℕ × List ℕ)
  pub parts : lines ≡ header ∷ rows
  pub sizes : sizes_from (words_of header.1) ≡ Some m.sizes
  pub few : nat_le (m.sizes.right * m.sizes.left) MATRIX_CELLS_MAX ≡ true
  pub formed : IsMatrix m
  pub filled_by : IsFilledBy m.sizes rows m

-- the state after lines that are not blank; an error remains whatever follows
abbrev pub IsStateAfter : List (ℕ × List ℕ) → ReaderState → Type 0
IsStateAfter lines Header = lines ≡ []
IsStateAfter lines (Rows m) = Fill lines m
IsStateAfter lines (Rejected fault) = (more : List (ℕ × List ℕ)) → connection_from (lines ++ more) ≡ Err fault

-- the bytes are rejected with this error, whatever follows
abbrev pub AreRejectedFor : SourceFault → List ℕ → Type 0
AreRejectedFor fault bytes = (more : List ℕ) → reported_connection (bytes ++ more) ≡ Err fault

-- the table has the contents of lines that are not blank
abbrev pub IsTableFrom : List (ℕ × List ℕ) → CostTable → Type 0
IsTableFrom lines m = (c : Connection) × (connection_from lines ≡ Ok c) × IsTableOf c m

-- the table has the contents of the bytes, with reported line numbers
abbrev pub IsReportedTable : List ℕ → CostTable → Type 0
IsReportedTable bytes m = (c : Connection) × (reported_connection bytes ≡ Ok c) × IsTableOf c m

-- the number of complete lines, the unfinished line, and the state after the complete lines
pub record ReaderView : Type 0 where
  pub complete_lines : ℕ
  pub unfinished : List ℕ
  pub state : ReaderState

-- the reader has read these bytes: complete lines, and the unfinished line, which it holds
pub record HasRead (bytes : List ℕ) (r : ReaderView) : Type 0 where
  pub closed : List ℕ
  pub lines : List (List ℕ)
  pub parts : bytes ≡ closed ++ r.unfinished
  pub unended : HasNoFeed r.unfinished
  pub cut : (more : List ℕ) → source_lines (closed ++ more) ≡ lines ++ source_lines more
  pub counted : r.complete_lines ≡ reported_number (length lines)
  pub lies : IsStateAfter (nonblank_lines (reported_lines 1 lines)) r.state
