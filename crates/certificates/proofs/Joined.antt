-- Rows of numbers and steps, each with a byte behind it.
use Rattle.std.proofs.Common.{◌≡◌, ℕ, ◌<◌, List, [], ◌∷◌, ◌++◌, map, length, refl, sym, ap, subst, ◌∙◌, arith}
use Rattle.std.specs.Prelude.{flat_map, codes}
use Rattle.std.specs.List.{AllByRecursion}
use Rattle.std.specs.Fmt.{decimal}
use Rattle.std.proofs.lemmas.List.{append_assoc, append-nil}
use Rattle.text_model.specs.Pieces.{pieces_joined}
use Rattle.certified_model.specs.Marks.{Text}
use Rattle.certified_model.specs.Certificates.{CertStep}
use Rattle.certificate_model.specs.CertificateTexts.{path_text, step_text, certificate_text, HasNineDigits, IsStep, SaysCertificate}
use Rattle.certificates.specs.Shown.{step_shown}
use Rattle.certificates.specs.declared.certificate.Step.{Step}

-- pieces, each with a mark behind it
abbrev pub ended : Text → List Text → Text
ended mark ps = flat_map (λ (p : Text). p ++ mark) ps

abbrev pub numbers_ended : List ℕ → Text
numbers_ended ns = ended (codes ".") (map decimal ns)

abbrev pub steps_ended : List CertStep → Text
steps_ended xs = ended (codes ",") (map step_text xs)

-- one more piece behind others
ended_more : (mark : Text) (ps : List Text) (p : Text) → ended mark (ps ++ p ∷ []) ≡ ended mark ps ++ (p ++ mark)
ended_more mark [] p = append-nil (p ++ mark)
ended_more mark (q ∷ ps) p = ap (λ (s : Text). (q ++ mark) ++ s) (ended_more mark ps p) ∙ sym (append_assoc (q ++ mark) (ended mark ps) (p ++ mark))

behind_joined : (mark : Text) (ps : List Text) (p : Text) → flat_map (λ (q : Text). mark ++ q) (ps ++ p ∷ []) ≡ mark ++ (ended mark ps ++ p)
behind_joined mark [] p = append-nil (mark ++ p)
behind_joined mark (q ∷ ps) p =
    ap (λ (s : Text). (mark ++ q) ++ s) (behind_joined mark ps p) ∙ append_assoc mark q (mark ++ (ended mark ps ++ p)) ∙ ap (λ (s : Text). mark ++ s) (sym (append_assoc q mark (ended mark ps ++ p)) ∙ sym (append_assoc (q ++ mark) (ended mark ps) p))

-- pieces with a mark between are the pieces before the last one, each with a mark behind it, and the last one
pub joined_ended : (mark : Text) (ps : List Text) (p : Text) → pieces_joined mark (ps ++ p ∷ []) ≡ ended mark ps ++ p
joined_ended mark [] p = append-nil p
joined_ended mark (q ∷ ps) p = ap (λ (s : Text). q ++ s) (behind_joined mark ps p) ∙ sym (append_assoc q mark (ended mark ps ++ p)) ∙ sym (append_assoc (q ++ mark) (ended mark ps) p)

map_last : {A B : Type 0} → (f : A → B) (xs : List A) (x : A) → map f (xs ++ x ∷ []) ≡ map f xs ++ f x ∷ []
map_last f [] x = refl
map_last f (y ∷ xs) x = ap (λ r. f y ∷ r) (map_last f xs x)

-- all of some and one more
pub all_last : {A : Type 0} → (P : A → Type 0) → (xs : List A) (x : A) → AllByRecursion P xs → P x → AllByRecursion P (xs ++ x ∷ [])
all_last P [] x h p = (p, tt)
all_last P (y ∷ xs) x h p = (h.0, all_last P xs x h.1 p)

-- one more number: a text goes on with it, and ends there or goes on behind a period
pub path_ends : (ns : List ℕ) (n : ℕ) (rest : Text) → numbers_ended ns ++ (decimal n ++ rest) ≡ path_text (ns ++ n ∷ []) ++ rest
path_ends ns n rest =
    sym (append_assoc (numbers_ended ns) (decimal n) rest) ∙ ap (λ (s : Text). s ++ rest) (sym (joined_ended (codes ".") (map decimal ns) (decimal n)) ∙ ap (pieces_joined (codes ".")) (sym (map_last decimal ns n)))

pub path_goes_on : (ns : List ℕ) (n : ℕ) (rest : Text) → numbers_ended ns ++ (decimal n ++ 46 ∷ rest) ≡ numbers_ended (ns ++ n ∷ []) ++ rest
path_goes_on ns n rest =
    ap (λ (s : Text). numbers_ended ns ++ s) (sym (append_assoc (decimal n) (codes ".") rest)) ∙ sym (append_assoc (numbers_ended ns) (decimal n ++ codes ".") rest)
    ∙ ap (λ (s : Text). s ++ rest) (sym (ended_more (codes ".") (map decimal ns) (decimal n)) ∙ ap (ended (codes ".")) (sym (map_last decimal ns n)))

-- the same of steps
pub steps_end : (xs : List CertStep) (x : CertStep) → steps_ended xs ++ step_text x ≡ certificate_text (xs ++ x ∷ [])
steps_end xs x = sym (joined_ended (codes ",") (map step_text xs) (step_text x)) ∙ ap (pieces_joined (codes ",")) (sym (map_last step_text xs x))

pub steps_go_on : (xs : List CertStep) (x : CertStep) (rest : Text) → steps_ended xs ++ (step_text x ++ 44 ∷ rest) ≡ steps_ended (xs ++ x ∷ []) ++ rest
steps_go_on xs x rest =
    ap (λ (s : Text). steps_ended xs ++ s) (sym (append_assoc (step_text x) (codes ",") rest)) ∙ sym (append_assoc (steps_ended xs) (step_text x ++ codes ",") rest)
    ∙ ap (λ (s : Text). s ++ rest) (sym (ended_more (codes ",") (map step_text xs) (step_text x)) ∙ ap (ended (codes ",")) (sym (map_last step_text xs x)))

-- the same, as readers ask for it
pub path_done : (ms ns : List ℕ) (n : ℕ) (t r o : Text) → ms ≡ ns ++ n ∷ [] → t ≡ numbers_ended ns ++ r → r ≡ decimal n ++ o → t ≡ path_text ms ++ o
path_done ms ns n t r o h e f = e ∙ ap (λ (s : Text). numbers_ended ns ++ s) f ∙ path_ends ns n o ∙ ap (λ (l : List ℕ). path_text l ++ o) (sym h)

pub path_more : (ms ns : List ℕ) (n : ℕ) (t r b o : Text) → ms ≡ ns ++ n ∷ [] → t ≡ numbers_ended ns ++ r → r ≡ decimal n ++ b → b ≡ 46 ∷ o → t ≡ numbers_ended ms ++ o
path_more ms ns n t r b o h e f g =
    e ∙ ap (λ (s : Text). numbers_ended ns ++ s) (f ∙ ap (λ (s : Text). decimal n ++ s) g) ∙ path_goes_on ns n o ∙ ap (λ (l : List ℕ). numbers_ended l ++ o) (sym h)

pub all_more : (ms ns : List ℕ) (n : ℕ) → ms ≡ ns ++ n ∷ [] → AllByRecursion HasNineDigits ns → HasNineDigits n → AllByRecursion HasNineDigits ms
all_more ms ns n h a p = subst (AllByRecursion HasNineDigits) (sym h) (all_last HasNineDigits ns n a p)

less : (c : ℕ) (u o : Text) → length o < length (u ++ c ∷ o)
less c [] o = omega arith
less c (b ∷ u) o = let rest = less c u o in omega (arith, rest)

pub path_shorter : (n : ℕ) (r b o : Text) → r ≡ decimal n ++ b → b ≡ 46 ∷ o → length o < length r
path_shorter n r b o e f = subst (λ (s : Text). length o < length s) (sym (e ∙ ap (λ (s : Text). decimal n ++ s) f)) (less 46 (decimal n) o)

pub steps_shorter : (x : CertStep) (r b o : Text) → r ≡ step_text x ++ b → b ≡ 44 ∷ o → length o < length r
steps_shorter x r b o e f = subst (λ (s : Text). length o < length s) (sym (e ∙ ap (λ (s : Text). step_text x ++ s) f)) (less 44 (step_text x) o)

shown_last : (ys xs : List Step) (x : Step) → ys ≡ xs ++ x ∷ [] → map step_shown ys ≡ map step_shown xs ++ step_shown x ∷ []
shown_last ys xs x h = ap (map step_shown) h ∙ map_last step_shown xs x

pub steps_good : (ys xs : List Step) (x : Step) → ys ≡ xs ++ x ∷ [] → AllByRecursion IsStep (map step_shown xs) → IsStep (step_shown x) → AllByRecursion IsStep (map step_shown ys)
steps_good ys xs x h a p = subst (AllByRecursion IsStep) (sym (shown_last ys xs x h)) (all_last IsStep (map step_shown xs) (step_shown x) a p)

pub steps_more : (ys xs : List Step) (x : Step) (t r b o : Text) → ys ≡ xs ++ x ∷ [] → t ≡ steps_ended (map step_shown xs) ++ r → r ≡ step_text (step_shown x) ++ b → b ≡ 44 ∷ o → t ≡ steps_ended (map step_shown ys) ++ o
steps_more ys xs x t r b o h e f g =
    e ∙ ap (λ (s : Text). steps_ended (map step_shown xs) ++ s) (f ∙ ap (λ (s : Text). step_text (step_shown x) ++ s) g)
    ∙ steps_go_on (map step_shown xs) (step_shown x) o ∙ ap (λ (l : List CertStep). steps_ended l ++ o) (sym (shown_last ys xs x h))

some_last : (xs : List CertStep) (x : CertStep) → xs ++ x ∷ [] ≡ [] → ⊥
some_last [] x e = let bad : ⊥ = cc in bad
some_last (y ∷ xs) x e = let bad : ⊥ = cc in bad

pub steps_done : (ys xs : List Step) (x : Step) (t r b : Text) → ys ≡ xs ++ x ∷ [] → AllByRecursion IsStep (map step_shown xs) → IsStep (step_shown x) → t ≡ steps_ended (map step_shown xs) ++ r → r ≡ step_text (step_shown x) ++ b → b ≡ [] → SaysCertificate t (map step_shown ys)
steps_done ys xs x t r b h a p e f g = record {
  some = λ n. some_last (map step_shown xs) (step_shown x) (sym (shown_last ys xs x h) ∙ n);
  steps = steps_good ys xs x h a p;
  spelled =
      e ∙ ap (λ (s : Text). steps_ended (map step_shown xs) ++ s) (f ∙ ap (λ (s : Text). step_text (step_shown x) ++ s) g ∙ append-nil (step_text (step_shown x)))
      ∙ steps_end (map step_shown xs) (step_shown x) ∙ ap certificate_text (sym (shown_last ys xs x h));
}

pub nothing_left : (t : Text) → length t ≡ 0 → t ≡ []
nothing_left [] e = refl
nothing_left (b ∷ t) e = absurd (omega (arith, e))
