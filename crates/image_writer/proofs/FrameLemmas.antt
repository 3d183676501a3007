-- Reading back an image that was composed of parts.
use Rattle.std.proofs.Common.{◌≡◌, ℕ, zero, suc, ◌+◌, ◌-◌, ◌*◌, ◌^◌, ◌<◌, ◌≤◌, List, [], ◌∷◌, ◌++◌, length, take, drop, refl, sym, ap, ◌∙◌, subst, arith, append_assoc, mul-le-mul_left}
use Rattle.std.specs.Prelude.{ℤ, flat_map, map, slice_index, slice_index_or, slice_range, sum}
use Rattle.std.proofs.lemmas.List.{append-nil, drop-append-le, drop_at, ext_get_or, length-append, length-map, take_all, take_at}
use Rattle.std.proofs.lemmas.Grind.{flat_map-append}
use Rattle.std.proofs.lemmas.List.Folds.{flat_map-map}
use Rattle.std.proofs.lemmas.List.FromFn.{length-map-range_with_len, get_or-map-range_with_len}
use Rattle.std.proofs.lemmas.List.Elements.{All-from_recursion}
use Rattle.std.proofs.lemmas.List.Concat.{length-flat_map}
use Rattle.std.proofs.lemmas.List.Sums.{sum-map, sum_by-cons}
use Rattle.std.proofs.Math.Seq.{drop-append-add}
use Rattle.byteorder.specs.Endian.{little_bytes, little_number}
use Rattle.byteorder.specs.Numbers.{length-bytes_low_first}
use Rattle.std.specs.Borrow.{Bor}
use Rattle.sha2.specs.Sha256.{sha256}
use Rattle.image_format.specs.ImageBytes.{header_length, header_of, image_magic, number_at, section, section_end, section_start}
use Rattle.image_format.specs.Layouts.{bytes_after_sections}
use Rattle.image_format.specs.declared.header.Header.{Header}
use Rattle.image_format.specs.declared.kind.DictKind.{DictKind}
use Rattle.image_format.specs.declared.kind.DictKind.TheVariants as dict
use Rattle.image_format.specs.DictKinds.{IsKind, kind_numbered, number_of_kind}
use Rattle.image_writer.specs.Frames.{AreShort, AreSmall, IsFramed, IsHeaderFor, all_sections, header_bytes, length_bytes, number_bytes, number_list}
use Rattle.image_writer.specs.Places.{joined_texts}
use Rattle.image_writer.specs.StoredTables.{cost_section}
use Rattle.image_format.proofs.ItemLemmas.{item_at, items_length}
use Rattle.image_format.proofs.NumberLemmas.{number_back}

-- number k of numbers of n bytes each, between other bytes
pub number_in_list : (n : ℕ) (front : List ℕ) (numbers : List ℕ) (rest : List ℕ) (k at : ℕ) → at ≡ length front + n * k → k < length numbers → slice_index numbers k < 256 ^ n
    → number_at n (front ++ (flat_map (little_bytes n) numbers ++ rest)) at ≡ slice_index numbers k
number_in_list n front numbers rest k at place less fits =
    let long : (x : ℕ) → length (little_bytes n x) ≡ n = λ x. length-bytes_low_first 0 n x in
    let whole = items_length (little_bytes n) n long numbers in
    let following = item_at (little_bytes n) n long numbers k 0 less in
    let low : n * k ≤ length (flat_map (little_bytes n) numbers) = subst (λ m. n * k ≤ m) (sym whole) (mul-le-mul_left n (omega (arith, less))) in
    ap (λ m. number_at n (front ++ (flat_map (little_bytes n) numbers ++ rest)) m) place
    ∙ ap (little_number n)
    (drop-append-add front (flat_map (little_bytes n) numbers ++ rest) (n * k)
    ∙ drop-append-le (n * k) (flat_map (little_bytes n) numbers) rest low
    ∙ ap (λ (bytes : List ℕ). bytes ++ rest) following
    ∙ append_assoc (little_bytes n (slice_index numbers k)) (flat_map (little_bytes n) (drop (suc k) numbers)) rest)
    ∙ number_back n (slice_index numbers k) (flat_map (little_bytes n) (drop (suc k) numbers) ++ rest) fits

-- the start and end of section k after a prefix
abbrev pub start_of : List ℕ → List (List ℕ) → ℕ → ℕ
start_of front sections k = length front + sum (take k (map length sections))

abbrev pub joined : List (List ℕ) → List ℕ
joined sections = flat_map (λ (section : List ℕ). section) sections

pub section_in : (front : List ℕ) (sections : List (List ℕ)) (rest : List ℕ) (k : ℕ) → k < length sections
    → slice_range (front ++ (joined sections ++ rest)) (start_of front sections k) (start_of front sections (suc k)) ≡ slice_index_or sections k []
section_in front [] rest k less = absurd (omega (arith, less))
section_in front (s ∷ sections) rest zero less =
    let one : sum (take 1 (map length (s ∷ sections))) ≡ length s + 0 = sum_by-cons (λ n. n) (length s) [] in
    let start : start_of front (s ∷ sections) 0 ≡ length front = omega (arith) in
    let count : start_of front (s ∷ sections) 1 - start_of front (s ∷ sections) 0 ≡ length s = omega (arith, one) in
    ap (λ n. take n (drop (start_of front (s ∷ sections) 0) (front ++ (joined (s ∷ sections) ++ rest)))) count
    ∙ ap (take (length s)) (ap (λ n. drop n (front ++ (joined (s ∷ sections) ++ rest))) start ∙ drop_at front (joined (s ∷ sections) ++ rest) (length front) refl)
    ∙ ap (take (length s)) (append_assoc s (joined sections) rest)
    ∙ take_at s (joined sections ++ rest) (length s) refl
section_in front (s ∷ sections) rest (suc k) less =
    let grouped : front ++ (joined (s ∷ sections) ++ rest) ≡ (front ++ s) ++ (joined sections ++ rest) =
    ap (λ (bytes : List ℕ). front ++ bytes) (append_assoc s (joined sections) rest) ∙ sym (append_assoc front s (joined sections ++ rest)) in
    let l = length-append front s in
    let at : (j : ℕ) → start_of front (s ∷ sections) (suc j) ≡ start_of (front ++ s) sections j =
    λ j. let e : sum (take (suc j) (map length (s ∷ sections))) ≡ length s + sum (take j (map length sections)) = sum_by-cons (λ n. n) (length s) (take j (map length sections)) in
    omega (arith, e, l) in
    rw (grouped, at k, at (suc k)) (section_in (front ++ s) sections rest k (omega (arith, less)))

-- ---- a whole image

-- the number of a kind names it
same_kind : (kind : DictKind) → IsKind kind → kind_numbered (number_of_kind kind) ≡ kind
same_kind dict.System is = refl
same_kind dict.User is = refl
same_kind (dict.Other n) is = absurd is

module _ (h : Header) (sections : List (List ℕ)) (eight : length sections ≡ 8) (is_for : IsHeaderFor sections h) (small : AreSmall (number_list h)) (short : AreShort h.lengths) where
  abbrev pub header : List ℕ
  header = header_bytes h

  abbrev pub front : List ℕ
  front = image_magic ++ number_bytes h

  prefix_length : length front ≡ 40
  prefix_length =
      let m = items_length (little_bytes 4) 4 (λ x. length-bytes_low_first 0 4 x) (number_list h) in
      length-append image_magic (number_bytes h) ∙ ap (λ k. 8 + k) m

  eight_lengths : length h.lengths ≡ 8
  eight_lengths = ap length is_for.lengths ∙ length-map sections length ∙ eight

  pub header_long : length header ≡ 104
  header_long =
      let m : length (length_bytes h.lengths) ≡ 64 = items_length (little_bytes 8) 8 (λ x. length-bytes_low_first 0 8 x) h.lengths ∙ ap (λ k. 8 * k) eight_lengths in
      ap length (sym (append_assoc image_magic (number_bytes h) (length_bytes h.lengths)))
      ∙ length-append front (length_bytes h.lengths)
      ∙ ap (λ k. length front + k) m ∙ ap (λ k. k + 64) prefix_length

  module _ (digest image : List ℕ) (is : image ≡ (header ++ joined sections) ++ digest) where
    around : image ≡ header ++ (joined sections ++ digest)
    around = is ∙ append_assoc header (joined sections) digest

    numbers_around : image ≡ image_magic ++ (number_bytes h ++ (length_bytes h.lengths ++ (joined sections ++ digest)))
    numbers_around = around ∙ append_assoc image_magic (number_bytes h ++ length_bytes h.lengths) (joined sections ++ digest)
        ∙ ap (λ (bytes : List ℕ). image_magic ++ bytes) (append_assoc (number_bytes h) (length_bytes h.lengths) (joined sections ++ digest))

    lengths_around : image ≡ front ++ (length_bytes h.lengths ++ (joined sections ++ digest))
    lengths_around = numbers_around ∙ sym (append_assoc image_magic (number_bytes h) (length_bytes h.lengths ++ (joined sections ++ digest)))

    number_is : (k : ℕ) → k < 8 → number_at 4 image (8 + 4 * k) ≡ slice_index (number_list h) k
    number_is k less =
        ap (λ (bytes : List ℕ). number_at 4 bytes (8 + 4 * k)) numbers_around
        ∙ number_in_list 4 image_magic (number_list h) (length_bytes h.lengths ++ (joined sections ++ digest)) k (8 + 4 * k) refl less (All-from_recursion (λ m. m < 2 ^ 32) (number_list h) small k 0 less)

    lengths_are : (header_of image).lengths ≡ h.lengths
    lengths_are =
        let f = prefix_length in
        let e = eight_lengths in
        ext_get_or 0 (header_of image).lengths h.lengths (length-map-range_with_len (λ k. number_at 8 image (40 + 8 * k)) 0 8 ∙ sym e)
        (λ k less.
        let low : k < length h.lengths = omega (arith, e, less) in
        get_or-map-range_with_len (λ j. number_at 8 image (40 + 8 * j)) 0 8 k k 0 less (omega (arith))
        ∙ ap (λ (bytes : List ℕ). number_at 8 bytes (40 + 8 * k)) lengths_around
        ∙ number_in_list 8 front h.lengths (joined sections ++ digest) k (40 + 8 * k) (omega (arith, f)) low (All-from_recursion (λ m. m < 2 ^ 64) h.lengths short k 0 low))

    header_is : header_of image ≡ h
    header_is = λ i. record {
      layout = number_is 0 (omega (arith)) i;
      kind = (ap kind_numbered (number_is 1 (omega (arith))) ∙ same_kind h.kind is_for.kind) i;
      sizes = record { right = number_is 2 (omega (arith)) i; left = number_is 3 (omega (arith)) i };
      categories = number_is 4 (omega (arith)) i;
      groups = number_is 5 (omega (arith)) i;
      tokens = number_is 6 (omega (arith)) i;
      unknown = number_is 7 (omega (arith)) i;
      lengths = lengths_are i;
    }

    -- the start of a section, by the header and by the sections
    place_is : (k : ℕ) → header_length + sum (take k h.lengths) ≡ start_of header sections k
    place_is k = ap (λ (ls : List ℕ). header_length + sum (take k ls)) is_for.lengths ∙ ap (λ m. m + sum (take k (map length sections))) (sym header_long)

    sections_are : (k : ℕ) → k < 8 → section image (suc k) ≡ slice_index_or sections k []
    sections_are k less =
        let before : suc k - 1 ≡ k = omega (arith) in
        let start : section_start (header_of image) (suc k) ≡ start_of header sections k =
        ap (λ j. header_length + sum (take j (header_of image).lengths)) before ∙ ap (λ (g : Header). header_length + sum (take k g.lengths)) header_is ∙ place_is k in
        let end : section_end (header_of image) (suc k) ≡ start_of header sections (suc k) = ap (λ (g : Header). section_end g (suc k)) header_is ∙ place_is (suc k) in
        ap (slice_range image (section_start (header_of image) (suc k))) end
        ∙ ap (λ a. slice_range image a (start_of header sections (suc k))) start
        ∙ ap (λ (bytes : List ℕ). slice_range bytes (start_of header sections k) (start_of header sections (suc k))) around
        ∙ section_in header sections digest k (omega (arith, less, eight))

    -- the header and the sections end where the last section does
    end_is : section_end h 8 ≡ length (header ++ joined sections)
    end_is =
        let c : length (map length sections) ≡ 8 = length-map sections length ∙ eight in
        let j : length (joined sections) ≡ sum (take 8 (map length sections)) =
        length-flat_map (λ (s : List ℕ). s) sections ∙ sym (sum-map length sections) ∙ ap sum (sym (take_all 8 (map length sections) (omega (arith, c)))) in
        place_is 8 ∙ sym (length-append header (joined sections) ∙ ap (λ m. length header + m) j)

    pub framed : digest ≡ sha256 (header ++ joined sections) → length digest ≡ 32 → IsFramed h sections image
    framed digest_is digest_long =
        let body = header ++ joined sections in
        let e : section_end (header_of image) 8 ≡ length body = ap (λ (g : Header). section_end g 8) header_is ∙ end_is in
        record {
          magic = ap (take 8) numbers_around;
          header = header_is;
          sections_are = sections_are;
          whole =
              let l = ap length is ∙ length-append body digest in
              let following : bytes_after_sections h.layout ≡ 32 = ap bytes_after_sections is_for.layout in
              let end = end_is in
              omega (arith, l, following, end, digest_long);
          digest = λ three.
              ap (λ m. drop m image) e ∙ ap (drop (length body)) is ∙ drop_at body digest (length body) refl
              ∙ digest_is ∙ ap sha256 (sym (ap (λ m. take m image) e ∙ ap (take (length body)) is ∙ take_at body digest (length body) refl));
        }

-- an image whose parts were appended one after another
pub frame_of : (h : Header) (costs : List ℤ) (given texts : List (Bor (List ℕ))) (start head some more all digest image : List ℕ) → length given ≡ 6
    → IsHeaderFor (all_sections costs given texts) h
    → AreSmall (number_list h) → AreShort h.lengths → start ≡ [] → head ≡ start ++ header_bytes h → some ≡ head ++ cost_section costs
    → more ≡ some ++ flat_map (λ section. section.now) given → all ≡ more ++ joined_texts texts
    → digest ≡ sha256 all → length digest ≡ 32 → image ≡ all ++ digest
    → IsFramed h (all_sections costs given texts) image
frame_of h costs given texts start head some more all digest image six is_for small short none header_is some_is more_is all_is digest_is digest_long is =
    let first : List ℕ = cost_section costs in
    let last : List ℕ = joined_texts texts in
    let others : List (List ℕ) = map (λ (section : Bor (List ℕ)). section.now) given in
    let same : flat_map (λ (section : Bor (List ℕ)). section.now) given ≡ joined others =
    sym (flat_map-map (λ (section : List ℕ). section) (λ (section : Bor (List ℕ)). section.now) given) in
    let following : joined others ++ last ≡ joined (others ++ last ∷ []) =
    sym (flat_map-append (λ (section : List ℕ). section) others (last ∷ []) ∙ ap (λ (bytes : List ℕ). joined others ++ bytes) (append-nil last)) in
    let whole : all ≡ header_bytes h ++ joined (first ∷ (others ++ last ∷ [])) =
    all_is ∙ rw (more_is, some_is, header_is, none, same)
    (append_assoc (header_bytes h ++ first) (joined others) last ∙ append_assoc (header_bytes h) first (joined others ++ last)
    ∙ ap (λ (bytes : List ℕ). header_bytes h ++ (first ++ bytes)) following) in
    let count : length (others ++ last ∷ []) ≡ 7 =
    length-append others (last ∷ []) ∙ ap (λ n. n + 1) (length-map given (λ (section : Bor (List ℕ)). section.now) ∙ six) in
    framed h (first ∷ (others ++ last ∷ [])) (ap suc count) is_for small short digest image
    (is ∙ ap (λ (bytes : List ℕ). bytes ++ digest) whole) (digest_is ∙ ap sha256 whole) digest_long
