-- The words of commands.
use Rattle.std.proofs.Common.{◌≡◌, ℕ, zero, suc, ◌+◌, ◌<◌, Bool, true, false, List, [], ◌∷◌, ◌++◌, length, take, map, find, Option, Some, None, Err, get_or, refl, sym, ap, subst, ◌∙◌, arith}
use Rattle.std.proofs.lemmas.List.{take_more}
use Rattle.std.specs.Prelude.{cond, IfSome, IfNone}
use Rattle.std.specs.Borrow.{Bor}
use Rattle.std.specs.Option.{option_map, option_map_or}
use Rattle.std.proofs.lemmas.Bool.Decides.{Decides-eqb}
use Rattle.std.proofs.lemmas.Slice.Eq.{slice_eq-Decides}
use Rattle.rb_base.specs.Names.{text_eq}
use Rattle.script_model.specs.Commands.{Row, UnknownCommand, table, said_by_row, said_by}
use Rattle.script_lang.specs.declared.verb.Verb.{Verb}
use Rattle.script_lang.specs.Shown.{word_of, FindsVerb}

abbrev Text : Type 0
Text = List ℕ

-- a word that has the same bytes is the same
pub same_word : (w v : List ℕ) → text_eq w v ≡ true → w ≡ v
same_word w v e = (slice_eq-Decides Decides-eqb w v (text_eq w v) refl).0 e

-- the first of a list that passes, behind some that do not
module _ {X : Type 0} (p : X → Bool) where
  pub first-here : (xs : List X) (i : ℕ) (d : X) → i < length xs → find p (take i xs) ≡ None → p (get_or xs i d) ≡ true → find p xs ≡ Some (get_or xs i d)
  first-here [] i d lt none e = absurd (omega (arith, lt))
  first-here (x ∷ xs) zero d lt none e = ap (λ (b : Bool). cond b (Some x) (find p xs)) e
  first-here (x ∷ xs) (suc i) d lt none e = by (p x) none (λ rest. first-here xs i d (omega (arith, lt)) rest e)
    where
      by : (b : Bool) → cond b (Some x) (find p (take i xs)) ≡ None → (find p (take i xs) ≡ None → find p xs ≡ Some (get_or xs i d)) → cond b (Some x) (find p xs) ≡ Some (get_or xs i d)
      by true some go = absurd (cc)
      by false rest go = go rest

  pub none-yet : (xs : List X) (i : ℕ) (d : X) → i < length xs → find p (take i xs) ≡ None → p (get_or xs i d) ≡ false → find p (take (i + 1) xs) ≡ None
  none-yet xs i d lt none e = ap (find p) (take_more xs i d lt) ∙ by (take i xs) none
    where
      by : (ys : List X) → find p ys ≡ None → find p (ys ++ get_or xs i d ∷ []) ≡ None
      by [] none = ap (λ (b : Bool). cond b (Some (get_or xs i d)) None) e
      by (y ∷ ys) none = step (p y) none (by ys)
        where
          step : (b : Bool) → cond b (Some y) (find p ys) ≡ None → (find p ys ≡ None → find p (ys ++ get_or xs i d ∷ []) ≡ None) → cond b (Some y) (find p (ys ++ get_or xs i d ∷ [])) ≡ None
          step true some go = absurd (cc)
          step false rest go = go rest

module _ (w : Text) where
  abbrev has : Bor Text × Verb → Bool
  has r = text_eq w r.0.now

  abbrev verb_in : Option (Bor Text × Verb) → Option Verb
  verb_in o = option_map (λ (r : Bor Text × Verb). r.1) o

  -- the verb that is found has the word
  found : (rows : List (Bor Text × Verb)) → map (λ (r : Bor Text × Verb). r.0.now) rows ≡ map (λ (r : Bor Text × Verb). word_of r.1) rows → IfSome (verb_in (find has rows)) (λ v. w ≡ word_of v)
  found [] same = tt
  found (r ∷ rs) same =
      let first : r.0.now ≡ word_of r.1 = cc in
      let rest : map (λ (x : Bor Text × Verb). x.0.now) rs ≡ map (λ (x : Bor Text × Verb). word_of x.1) rs = cc in
      by (has r) refl first (found rs rest)
    where
      by : (b : Bool) → has r ≡ b → r.0.now ≡ word_of r.1 → IfSome (verb_in (find has rs)) (λ v. w ≡ word_of v) → IfSome (verb_in (cond b (Some r) (find has rs))) (λ v. w ≡ word_of v)
      by true e first others = same_word w r.0.now e ∙ first
      by false e first others = others

  pub verb-found : {rows : List (Bor Text × Verb)} (o : Option Verb) → FindsVerb w rows o → map (λ (r : Bor Text × Verb). r.0.now) rows ≡ map (λ (r : Bor Text × Verb). word_of r.1) rows → IfSome o (λ v. w ≡ word_of v)
  verb-found {rows} o finds same = subst (λ (p : Option Verb). IfSome p (λ v. w ≡ word_of v)) (sym finds.is) (found rows same)

  -- where no verb has the word, no row has it
  none-found : (rows : List (Bor Text × Verb)) (ts : List Row) → map (λ (r : Bor Text × Verb). r.0.now) rows ≡ map (λ (t : Row). t.word) ts → verb_in (find has rows) ≡ None → find (λ (t : Row). text_eq w t.word) ts ≡ None
  none-found [] [] same none = refl
  none-found [] (t ∷ ts) same none = absurd (cc)
  none-found (r ∷ rs) [] same none = absurd (cc)
  none-found (r ∷ rs) (t ∷ ts) same none =
      let first : r.0.now ≡ t.word = cc in
      let rest : map (λ (x : Bor Text × Verb). x.0.now) rs ≡ map (λ (x : Row). x.word) ts = cc in
      by (has r) refl first none (none-found rs ts rest)
    where
      by : (b : Bool) → has r ≡ b → r.0.now ≡ t.word → verb_in (cond b (Some r) (find has rs)) ≡ None → (verb_in (find has rs) ≡ None → find (λ (x : Row). text_eq w x.word) ts ≡ None) → cond (text_eq w t.word) (Some t) (find (λ (x : Row). text_eq w x.word) ts) ≡ None
      by true e first some go = absurd (cc)
      by false e first some go = ap (λ (b : Bool). cond b (Some t) (find (λ (x : Row). text_eq w x.word) ts)) (ap (text_eq w) (sym first) ∙ e) ∙ go some

  pub no-verb : {rows : List (Bor Text × Verb)} (o : Option Verb) → FindsVerb w rows o → map (λ (r : Bor Text × Verb). r.0.now) rows ≡ map (λ (t : Row). t.word) table → IfNone o ((ws : List Text) → said_by (w ∷ ws) ≡ Err UnknownCommand)
  no-verb (Some v) finds same = tt
  no-verb {rows} None finds same = λ ws. ap (λ (o : Option Row). option_map_or (said_by_row ws) o (Err UnknownCommand)) (none-found rows table same (sym finds.is))
