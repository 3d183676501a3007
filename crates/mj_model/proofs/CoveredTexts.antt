-- Texts over dictionaries that have words for every character are covered.
use Rattle.std.proofs.Common.{List, length}
use Rattle.std.specs.Prelude.{ℕ, IsUtf8}
use Rattle.mj_model.specs.Laws.{HasWords, CoversAll}
use Rattle.mj_model.specs.PathLaws.{IsCovered}
use Rattle.mj_model.specs.Tables.{Overlay}
use Rattle.mj_model.specs.Words.{words}
use Rattle.mj_model.proofs.BestExists.{best_path_exists}
use Rattle.mj_model.proofs.ReversedChainLemmas.{best_is_one}
use Rattle.mj_model.proofs.PlaceWords.{words_keep_places}
use Rattle.mj_model.proofs.TextPaths.{only_blanks_remain, words_join}

pub is_covered : (o : Overlay) → HasWords o → CoversAll o → (text : List ℕ) → IsUtf8 text → IsCovered o text
is_covered o has covers text u =
    let ws = words o text in
    let conn = o.system.connection in
    let are = (words_keep_places o text has).are in
    let b = best_path_exists ws conn (length text) are in
    record {
      best = b.0;
      is_best = b.1;
      no_other = λ other is. best_is_one ws conn (length text) are other b.0 is b.1;
      only_blanks = only_blanks_remain o text has covers u;
      joins = words_join o text has;
    }
