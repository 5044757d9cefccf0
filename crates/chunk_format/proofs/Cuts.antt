-- Where a text is cut at a mark.
use Rattle.std.proofs.Common.{◌≡◌, ◌≢◌, ℕ, zero, suc, ◌+◌, ◌-◌, ◌<◌, ◌≤◌, ◌⊎◌, inl, inr, true, false, List, [], ◌∷◌, ◌++◌, length, take, drop, get_or, refl, ap, sym, subst, ◌∙◌, arith, add-one, Some, None, ◌||◌, length-drop, take_all, append_assoc}
use Rattle.std.proofs.lemmas.List.{take-append-drop, drop_more, take_more, get_or-drop, drop-drop}
use Rattle.std.proofs.lemmas.List.Folds.{list_any-append}
use Rattle.std.proofs.Math.Seq.{take-add}
use Rattle.std.proofs.Math.Bool.{or-false, or-true}
use Rattle.std.specs.Prelude.{◌==◌}
use Rattle.std.proofs.lemmas.Bool.Decides.{eqb_tells}
use Rattle.memchr.specs.Find.{IsFirstByte, is_byte}
use Rattle.rb_base.specs.Doubling.{IsPaired, Empty, Pair, BeginsOtherwise, doubled}
use Rattle.chunk_format.specs.Chunks.{IsCut, holds_mark}
use Rattle.chunk_format.proofs.Doubles.{HasNoMark, behind_first, IsPaired-append, IsPaired-take, IsPaired-no_mark, FindsMark-from_first, HasNoMark-from_none, doubled-append, doubled-take_mark, doubled-no_mark, first_pair}

-- the code's `&s[from..]`
pub behind : (from : ℕ) (s : List ℕ) → from ≤ length s → take (length s - from) (drop from s) ≡ drop from s
behind from s le = take_all _ _ (simp length-drop (omega arith))

-- the test of bytes among which there is no mark
no_mark : (s : List ℕ) (k : ℕ) → HasNoMark 33 s k → holds_mark (take k s) ≡ false
no_mark s zero h = refl
no_mark [] (suc k) h = refl
no_mark (b ∷ s) (suc k) h =
    let other : (b == 33) ≡ false = elim (eqb_tells b 33) [ inl same ↦ absurd (h.others 0 (omega arith) same.1) | inr differs ↦ differs.0 ] in
    ap (λ t. t || holds_mark (take k s)) other ∙ no_mark s k (behind_first h)

-- what is known where a mark was found k bytes behind from
pub record Reaches (text : List ℕ) (from k : ℕ) : Type 0 where
  pub inside : from + k < length text
  pub mark : get_or text (from + k) 0 ≡ 33
  pub paired : IsPaired 33 (take (from + k) text)
  pub same : holds_mark (take (from + k) text) ≡ holds_mark (take from text)

-- a search from behind a paired front, and the mark that it finds
pub reaches : (text : List ℕ) (from k : ℕ) → from ≤ length text → IsPaired 33 (take from text) → IsFirstByte (is_byte 33) (drop from text) (Some k) → Reaches text from k
reaches text from k le paired first =
    let rest = drop from text in
    let found = FindsMark-from_first 33 rest k first in
    let len : length rest + from ≡ length text = simp length-drop (omega arith) in
    record {
      inside = omega (arith, found.inside);
      mark = sym (get_or-drop from text k 0) ∙ found.mark;
      paired = rw (take-add from k text) (IsPaired-append _ _ paired (IsPaired-take 33 rest k found.before));
      same = ap holds_mark (take-add from k text) ∙ list_any-append _ (take from text) (take k rest) ∙ ap (λ b. holds_mark (take from text) || b) (no_mark rest k found.before) ∙ or-false _;
    }

-- paired up to the end
pub IsPaired-rest : (text : List ℕ) (from : ℕ) → IsPaired 33 (take from text) → IsFirstByte (is_byte 33) (drop from text) None → IsPaired 33 text
IsPaired-rest text from paired none =
    subst (IsPaired 33) (take-append-drop from text) (IsPaired-append _ _ paired (IsPaired-no_mark 33 _ (HasNoMark-from_none 33 _ none)))

-- what begins at the end, or at a byte that is not the mark, does not begin with it
BeginsOtherwise-drop : (s : List ℕ) (i : ℕ) → (i ≡ length s) ⊎ (get_or s i 0 ≢ 33) → i ≤ length s → BeginsOtherwise 33 (drop i s)
BeginsOtherwise-drop [] zero h le = tt
BeginsOtherwise-drop (b ∷ s) zero (inl is) le = absurd (omega arith)
BeginsOtherwise-drop (b ∷ s) zero (inr other) le = other
BeginsOtherwise-drop [] (suc i) h le = tt
BeginsOtherwise-drop (b ∷ s) (suc i) (inl is) le = BeginsOtherwise-drop s i (inl (omega arith)) (omega arith)
BeginsOtherwise-drop (b ∷ s) (suc i) (inr other) le = BeginsOtherwise-drop s i (inr other) (omega arith)

-- the cut at a mark which no mark follows
pub cut_at : (text : List ℕ) (from k : ℕ) → Reaches text from k → (from + k + 1 ≡ length text) ⊎ (get_or text (from + k + 1) 0 ≢ 33) → IsCut text (take (from + k) text) (drop (from + k + 1) text)
cut_at text from k r h = record {
  whole = sym (take-append-drop (from + k) text) ∙ ap (λ s. take (from + k) text ++ s) (drop_more text (from + k) 0 r.inside ∙ ap (λ b. b ∷ drop (from + k + 1) text) r.mark);
  paired = r.paired;
  other = BeginsOtherwise-drop text (from + k + 1) h (omega (arith, r.inside));
}

-- over a pair of marks
pub over_pair : (text : List ℕ) (from k : ℕ) → Reaches text from k → from + k + 1 < length text → get_or text (from + k + 1) 0 ≡ 33 → IsPaired 33 (take (from + k + 2) text) × (holds_mark (take (from + k + 2) text) ≡ true)
over_pair text from k r lt mark =
    let at = from + k in
    let one : take (at + 1) text ≡ take at text ++ get_or text at 0 ∷ [] = take_more text at 0 r.inside in
    let two : take (at + 1 + 1) text ≡ take (at + 1) text ++ get_or text (at + 1) 0 ∷ [] = take_more text (at + 1) 0 lt in
    let sum : at + 2 ≡ at + 1 + 1 = omega arith in
    let both : take (at + 2) text ≡ take at text ++ (33 ∷ 33 ∷ []) =
    ap (λ n. take n text) sum ∙ two ∙ ap (λ s. s ++ get_or text (at + 1) 0 ∷ []) one ∙ append_assoc (take at text) (get_or text at 0 ∷ []) (get_or text (at + 1) 0 ∷ []) ∙ (rw (r.mark, mark) refl)
    in (
      rw both (IsPaired-append _ _ r.paired (Pair Empty)),
      ap holds_mark both ∙ list_any-append _ (take at text) (33 ∷ 33 ∷ []) ∙ or-true _,
    )

-- one pair of marks made one mark: what is made, and what is left
pub record Halved (paired made : List ℕ) (from k : ℕ) : Type 0 where
  pub inside : from + k + 2 ≤ length paired
  pub made_so_far : doubled 33 (made ++ take (k + 1) (drop from paired)) ≡ take (from + k + 2) paired
  pub rest : IsPaired 33 (drop (from + k + 2) paired)

-- the bytes up to the next mark, and one mark for the pair
pub halve_pair : (paired made : List ℕ) (from k : ℕ) → from ≤ length paired → doubled 33 made ≡ take from paired → IsPaired 33 (drop from paired) → IsFirstByte (is_byte 33) (drop from paired) (Some k) → Halved paired made from k
halve_pair paired made from k le so_far rest first =
    let left = drop from paired in
    let found = FindsMark-from_first 33 left k first in
    let pair = first_pair 33 left k rest found.before found.inside found.mark in
    let len : length left + from ≡ length paired = simp length-drop (omega arith) in
    let sum : from + k + 2 ≡ from + suc (suc k) = omega arith in
    record {
      inside = omega (arith, pair.inside);
      made_so_far =
          ap (λ n. doubled 33 (made ++ take n left)) (add-one k) ∙ doubled-append 33 made (take (suc k) left) ∙ ap (λ s. s ++ doubled 33 (take (suc k) left)) so_far ∙ ap (λ s. take from paired ++ s) pair.front ∙ sym (take-add from (suc (suc k)) paired) ∙ ap (λ n. take n paired) (sym sum);
      rest = subst (IsPaired 33) (drop-drop (suc (suc k)) from paired ∙ ap (λ n. drop n paired) (sym sum)) pair.rest;
    }

-- what is left behind the last pair
pub halve_rest : (paired made : List ℕ) (from : ℕ) → doubled 33 made ≡ take from paired → IsFirstByte (is_byte 33) (drop from paired) None → doubled 33 (made ++ drop from paired) ≡ paired
halve_rest paired made from so_far none =
    doubled-append 33 made (drop from paired) ∙ ap (λ s. s ++ doubled 33 (drop from paired)) so_far ∙ ap (λ s. take from paired ++ s) (doubled-no_mark 33 _ (HasNoMark-from_none 33 _ none)) ∙ take-append-drop from paired

-- up to the next mark and with it, which is written once more
pub double_mark : (source made : List ℕ) (from k : ℕ) → from ≤ length source → made ≡ doubled 33 (take from source) → IsFirstByte (is_byte 33) (drop from source) (Some k) → made ++ take (k + 1) (drop from source) ++ 33 ∷ [] ≡ doubled 33 (take (from + k + 1) source)
double_mark source made from k le so_far first =
    let left = drop from source in
    let found = FindsMark-from_first 33 left k first in
    let sum : from + k + 1 ≡ from + suc k = omega arith in
    append_assoc made (take (k + 1) left) (33 ∷ []) ∙ ap (λ n. made ++ (take n left ++ 33 ∷ [])) (add-one k) ∙ ap (λ s. made ++ s) (sym (doubled-take_mark 33 left k found.before found.inside found.mark)) ∙ ap (λ s. s ++ doubled 33 (take (suc k) left)) so_far ∙ sym (doubled-append 33 (take from source) (take (suc k) left)) ∙ ap (doubled 33) (sym (take-add from (suc k) source) ∙ ap (λ n. take n source) (sym sum))

-- what is left behind the last mark
pub double_rest : (source made : List ℕ) (from : ℕ) → made ≡ doubled 33 (take from source) → IsFirstByte (is_byte 33) (drop from source) None → made ++ drop from source ≡ doubled 33 source
double_rest source made from so_far none =
    ap (λ s. made ++ s) (sym (doubled-no_mark 33 _ (HasNoMark-from_none 33 _ none))) ∙ ap (λ s. s ++ doubled 33 (drop from source)) so_far ∙ sym (doubled-append 33 (take from source) (drop from source)) ∙ ap (doubled 33) (take-append-drop from source)

-- the code's `&s[from..from + k + 1]`
pub between : (from k : ℕ) (s : List ℕ) → take (from + k + 1 - from) s ≡ take (k + 1) s
between from k s = let e : from + k + 1 - from ≡ k + 1 = omega arith in ap (λ n. take n s) e
