-- The words of a string, and their numbers.
use Rattle.std.proofs.Common.{◌≡◌, ℕ, false, not, cond, List, [], ◌∷◌, ◌++◌, length, map, filter, take, drop, sym, ap, subst, ◌∙◌, append_assoc}
use Rattle.std.specs.Prelude.{◌==◌}
use Rattle.std.specs.List.{AllByRecursion, slice_split, prefix_len}
use Rattle.std.proofs.lemmas.List.{map-append}
use Rattle.std.proofs.lemmas.List.Elements.{filter-append}
use Rattle.rb_base.specs.Names.{name_at}
use Rattle.chunk_format.specs.Blank.{is_blank}
use Rattle.chunk_forms.proofs.Strings.{split_word, split_last}
use Rattle.event_trees.specs.Naming.{Grows}
use Rattle.file_model.specs.Filing.{Text}
use Rattle.file_model.specs.Words.{words_of}
use Rattle.file_reading.specs.Filed.{IsNumberIn}
use Rattle.file_reading.proofs.Growing.{names-grown, numbers-grown}

-- the word, unless it is empty
abbrev pub one_word : Text → List Text
one_word w = filter (λ (v : Text). not (length v == 0)) (w ∷ [])

-- the words of a string in which a blank stands
pub words-more : (xs word behind others : List ℕ) (n x : ℕ) → n ≡ prefix_len (λ b. not (is_blank b)) xs → word ≡ take n xs → behind ≡ drop n xs → behind ≡ x ∷ others
    → words_of xs ≡ one_word word ++ words_of others
words-more xs word behind others n x len front back cut =
    let found : drop (prefix_len (λ b. not (is_blank b)) xs) xs ≡ x ∷ others = ap (λ k. drop k xs) (sym len) ∙ sym back ∙ cut in
    let first : take (prefix_len (λ b. not (is_blank b)) xs) xs ≡ word = ap (λ k. take k xs) (sym len) ∙ sym front in
    ap (filter (λ (v : Text). not (length v == 0))) (split_word is_blank xs x others found ∙ ap (λ w. w ∷ slice_split is_blank others) first)
    ∙ filter-append (λ (v : Text). not (length v == 0)) (word ∷ []) (slice_split is_blank others)

-- the words of a string without a blank
pub words-last : (xs word behind : List ℕ) (n : ℕ) → n ≡ prefix_len (λ b. not (is_blank b)) xs → word ≡ take n xs → behind ≡ drop n xs → behind ≡ [] → words_of xs ≡ one_word word
words-last xs word behind n len front back cut =
    let found : drop (prefix_len (λ b. not (is_blank b)) xs) xs ≡ [] = ap (λ k. drop k xs) (sym len) ∙ sym back ∙ cut in
    let first : take (prefix_len (λ b. not (is_blank b)) xs) xs ≡ word = ap (λ k. take k xs) (sym len) ∙ sym front in
    ap (filter (λ (v : Text). not (length v == 0))) (split_last is_blank xs found ∙ ap (λ w. w ∷ []) first)

-- words that were found, and those that are left
pub words-step : (found more left all rest word : List Text) → found ++ rest ≡ all → rest ≡ word ++ left → more ≡ found ++ word → more ++ left ≡ all
words-step found more left all rest word e q p = ap (λ ws. ws ++ left) p ∙ append_assoc found word left ∙ ap (λ ws. found ++ ws) (sym q) ∙ e

-- the number of a word was put behind others
pub pushed : (names later : List Text) (ids new : List ℕ) (n : ℕ) (word : Text) → Grows names later → AllByRecursion (IsNumberIn names) ids → name_at later n ≡ word → (length word == 0) ≡ false → new ≡ ids ++ n ∷ []
    → map (name_at later) new ≡ map (name_at names) ids ++ one_word word
pushed names later ids new n word g known text some e =
    ap (map (name_at later)) e ∙ map-append (name_at later) ids (n ∷ [])
    ∙ (λ i. names-grown g ids known i ++ text i ∷ [])
    ∙ ap (λ ws. map (name_at names) ids ++ ws) (sym (ap (λ b. cond (not b) (word ∷ []) []) some))

-- numbers of a table, and one more
pub all-pushed : (names later : List Text) (ids new : List ℕ) (n : ℕ) → Grows names later → AllByRecursion (IsNumberIn names) ids → IsNumberIn later n → new ≡ ids ++ n ∷ [] → AllByRecursion (IsNumberIn later) new
all-pushed names later ids new n g known last e = by new e
  where
    both : (ns : List ℕ) → AllByRecursion (IsNumberIn later) ns → AllByRecursion (IsNumberIn later) (ns ++ n ∷ [])
    both [] h = (last, tt)
    both (m ∷ ns) h = (h.0, both ns h.1)

    by : (ms : List ℕ) → ms ≡ ids ++ n ∷ [] → AllByRecursion (IsNumberIn later) ms
    by ms q = subst (AllByRecursion (IsNumberIn later)) (sym q) (both ids (numbers-grown g ids known))
