-- The texts of a table of marks name them.
use Rattle.std.proofs.Common.{◌≡◌, ℕ, suc, ◌+◌, ◌-◌, ◌<◌, ◌≤◌, Bool, true, false, List, [], ◌∷◌, ◌++◌, length, map, Option, Some, slice_get, refl, sym, ap, subst, ◌∙◌, ◌⊎◌, inl, inr, arith, append_assoc, length-append}
use Rattle.std.specs.Prelude.{nat_eq, nat_lt, if◌then◌else◌, unwrap_or}
use Rattle.std.specs.List.{AllByRecursion}
use Rattle.std.specs.Option.{option_map_or}
use Rattle.std.proofs.lemmas.Bool.{false≢true, lt-ltb, le-ltb, eq-eqb, ne_eqb, cases_order}
use Rattle.std.proofs.lemmas.Option.{slice_get_within}
use Rattle.rb_base.specs.Names.{name_at, text_eq, HasNoTwice}
use Rattle.rb_base.proofs.NamesLemmas.{text_eq-name_at}
use Rattle.certified_model.specs.Marks.{Text, Mark, plain, is_same_mark, is_unary_mark}
use Rattle.certified_rules.proofs.MarkWords.{mark_words_are}
use Rattle.text_steps.specs.TextSteps.{IsNaming}
use Rattle.text_steps.specs.MarkTexts.{mark_in, MayStandFor, AreApart, AreMarks}
use Rattle.text_steps.proofs.FreshTexts.{lettered, quoted}
use Rattle.text_steps.proofs.MarkTexts.{names_marks}
use Rattle.derivations.specs.Signs.{Sign, mark_by, same_sign, is_unary_sign}
use Rattle.derivations.specs.Numbered.{Table}
use Rattle.derivations.specs.Named.{IsNameFor}
use Rattle.derivations.specs.Taken.{SignNames, AreOnce, IsTable, mark_at}
use Rattle.derivations.proofs.Alike.{sign_alike, unary_alike, no_name, sign_names}

abbrev pub Row : Type 0
Row = Text × Sign

-- the texts with their marks
abbrev pub shown : (ℕ → Text) → List Row → List (Text × Mark)
shown f rows = map (λ (r : Row). (r.0, mark_by f r.1)) rows

-- texts stand in a table from a number on
abbrev AreFrom : List Text → ℕ → List Row → Type 0
AreFrom names j [] = Unit {0}
AreFrom names j (r ∷ rs) = (slice_get names j ≡ Some r.0) × AreFrom names (suc j) rs

one_further : (names : List Text) (t : Text) (j : ℕ) (rows : List Row) → AreFrom names j rows → AreFrom (t ∷ names) (suc j) rows
one_further names t j [] h = tt
one_further names t j (r ∷ rs) h = (h.0, one_further names t (suc j) rs h.1)

in_front : (rows : List Row) (more : List Text) → AreFrom (map (λ (r : Row). r.0) rows ++ more) 0 rows
in_front [] more = tt
in_front (r ∷ rs) more = (refl, one_further (map (λ (r : Row). r.0) rs ++ more) r.0 0 rs (in_front rs more))

behind : (before : List Text) (rows : List Row) (more : List Text) → AreFrom (before ++ (map (λ (r : Row). r.0) rows ++ more)) (length before) rows
behind [] rows more = in_front rows more
behind (t ∷ before) rows more = one_further (before ++ (map (λ (r : Row). r.0) rows ++ more)) t (length before) rows (behind before rows more)

pub are_from : (names : List Text) (table : Table) (h : IsTable names table) → AreFrom names table.first h.named.rows
are_from names table h =
    let rows = h.named.rows in
    let is : names ≡ h.before ++ (map (λ (r : Row). r.0) rows ++ h.grows.more) = h.grows.grown ∙ ap (λ (ts : List Text). ts ++ h.grows.more) h.named.texts ∙ append_assoc h.before (map (λ (r : Row). r.0) rows) h.grows.more in
    subst (λ (j : ℕ). AreFrom names j rows) (sym h.first) (subst (λ (ts : List Text). AreFrom ts (length h.before) rows) (sym is) (behind h.before rows h.grows.more))

-- the text of a number
text_is : (names : List Text) (j : ℕ) (t : Text) → slice_get names j ≡ Some t → name_at names j ≡ t
text_is names j t e = ap (λ (o : Option Text). unwrap_or o []) e

module _ (names : List Text) (distinct : HasNoTwice names) (f : ℕ → Text) where
  -- the mark of a number from a number on
  abbrev found : ℕ → List Sign → ℕ → Mark
  found j ss n = if nat_lt n j then plain (name_at names n) else option_map_or (mark_by f) (slice_get ss (n - j)) (plain (name_at names n))

  found_below : (j : ℕ) (ss : List Sign) (n : ℕ) → n < j → found j ss n ≡ plain (name_at names n)
  found_below j ss n h = ap (λ (b : Bool). if b then plain (name_at names n) else option_map_or (mark_by f) (slice_get ss (n - j)) (plain (name_at names n))) (lt-ltb n j h)

  found_above : (j : ℕ) (ss : List Sign) (n k : ℕ) → n ≡ j + k → found j ss n ≡ option_map_or (mark_by f) (slice_get ss k) (plain (name_at names n))
  found_above j ss n k e =
      ap (λ (b : Bool). if b then plain (name_at names n) else option_map_or (mark_by f) (slice_get ss (n - j)) (plain (name_at names n))) (le-ltb n j (omega (arith, e)))
      ∙ ap (λ (i : ℕ). option_map_or (mark_by f) (slice_get ss i) (plain (name_at names n))) (omega (arith, e))

  found_none : (j n : ℕ) → found j [] n ≡ plain (name_at names n)
  found_none j n = by (nat_lt n j)
    where
      by : (b : Bool) → (if b then plain (name_at names n) else plain (name_at names n)) ≡ plain (name_at names n)
      by true = refl
      by false = refl

  pub found_in : (rows : List Row) (j n : ℕ) → AreFrom names j rows → n < length names → mark_in (shown f rows) (name_at names n) ≡ found j (map (λ (r : Row). r.1) rows) n
  found_in [] j n h k = sym (found_none j n)
  found_in (r ∷ rs) j n h k = by (cases_order n j) (found_in rs (suc j) n h.1 k)
    where
      told : (b : Bool) → nat_eq j n ≡ b → mark_in (shown f (r ∷ rs)) (name_at names n) ≡ (if b then mark_by f r.1 else mark_in (shown f rs) (name_at names n))
      told b e =
          ap (λ (c : Bool). if c then mark_by f r.1 else mark_in (shown f rs) (name_at names n))
          (ap (λ (t : Text). text_eq t (name_at names n)) (sym (text_is names j r.0 h.0)) ∙ text_eq-name_at names distinct j n (slice_get_within names j r.0 h.0) k ∙ e)

      by : (n ≡ j) ⊎ ((n < j) ⊎ (j < n)) → mark_in (shown f rs) (name_at names n) ≡ found (suc j) (map (λ (r : Row). r.1) rs) n → mark_in (shown f (r ∷ rs)) (name_at names n) ≡ found j (map (λ (r : Row). r.1) (r ∷ rs)) n
      by (inl e) rest = told true (eq-eqb j n (sym e)) ∙ sym (found_above j (r.1 ∷ map (λ (r : Row). r.1) rs) n 0 (omega (arith, e)))
      by (inr (inl l)) rest = told false (ne_eqb j n (λ e. omega (arith, e, l))) ∙ rest ∙ found_below (suc j) (map (λ (r : Row). r.1) rs) n (omega (arith, l)) ∙ sym (found_below j (r.1 ∷ map (λ (r : Row). r.1) rs) n l)
      by (inr (inr g)) rest =
          let at : n ≡ suc j + (n - suc j) = omega (arith, g) in
          told false (ne_eqb j n (λ e. omega (arith, e, g))) ∙ rest ∙ found_above (suc j) (map (λ (r : Row). r.1) rs) n (n - suc j) at ∙ sym (found_above j (r.1 ∷ map (λ (r : Row). r.1) rs) n (suc (n - suc j)) (omega (arith, at)))

module _ (names : List Text) (distinct : HasNoTwice names) where
  -- texts from a number on are not those before
  others : (rows : List Row) (i j : ℕ) (t : Text) → i < j → slice_get names i ≡ Some t → AreFrom names j rows → AllByRecursion (λ (r : Row). t ≡ r.0 → ⊥) rows
  others [] i j t l e h = tt
  others (r ∷ rs) i j t l e h = (
    λ s. let same : i ≡ j = distinct i j (slice_get_within names i t e) (e ∙ ap Some s ∙ sym h.0) in omega (arith, same, l),
    others rs i (suc j) t (omega (arith, l)) e h.1,
  )

  apart : (r : Row) (rows : List Row) → SignNames (λ n. n < length names) r.1 → AllByRecursion (SignNames (λ n. n < length names)) (map (λ (q : Row). q.1) rows)
      → AllByRecursion (λ t. same_sign r.1 t ≡ false) (map (λ (q : Row). q.1) rows) → AllByRecursion (λ (q : Row). r.0 ≡ q.0 → ⊥) rows
      → AllByRecursion (AreApart (r.0, mark_by (name_at names) r.1)) (shown (name_at names) rows)
  apart r [] h g o t = tt
  apart r (q ∷ rows) h g o t = (
    record {
      texts = t.0;
      marks = λ e.
          let same : same_sign r.1 q.1 ≡ true =
          sym (sign_alike names distinct r.1 q.1 h g.0) ∙ ap (λ (m : Mark). is_same_mark (mark_by (name_at names) r.1) m) (sym e) ∙ mark_words_are.refl (mark_by (name_at names) r.1) in
          false≢true (sym o.0 ∙ same);
    },
    apart r rows h g.1 o.1 t.1,
  )

  abbrev mark_of : Row → Mark
  mark_of r = mark_by (name_at names) r.1

  stands : (r : Row) → SignNames (λ n. n < length names) r.1 → IsNameFor r.0 r.1 → MayStandFor (r.0, mark_of r)
  stands r h n = by (is_unary_sign r.1) refl
    where
      unary : is_unary_mark (mark_of r) ≡ is_unary_sign r.1
      unary = unary_alike (name_at names) (λ n. n < length names) r.1 h

      by : (b : Bool) → is_unary_sign r.1 ≡ b → MayStandFor (r.0, mark_of r)
      by true e =
          subst (λ (t : Text). MayStandFor (t, mark_of r)) (sym (n.spelled ∙ ap (λ (b : Bool). (if b then 117 else 96) ∷ n.digits) e))
          (lettered n.digits (mark_of r) n.are_digits (unary ∙ e) (no_name (name_at names) (λ n. n < length names) r.1 h))
      by false e =
          subst (λ (t : Text). MayStandFor (t, mark_of r)) (sym (n.spelled ∙ ap (λ (b : Bool). (if b then 117 else 96) ∷ n.digits) e))
          (quoted n.digits (mark_of r) n.are_digits (unary ∙ e) (no_name (name_at names) (λ n. n < length names) r.1 h))

  pub are_marks : (rows : List Row) (j : ℕ) → AreFrom names j rows → AllByRecursion (λ (r : Row). IsNameFor r.0 r.1) rows → AreOnce (map (λ (r : Row). r.1) rows)
      → AllByRecursion (SignNames (λ n. n < length names)) (map (λ (r : Row). r.1) rows) → AreMarks (shown (name_at names) rows)
  are_marks [] j h n o k = tt
  are_marks (r ∷ rs) j h n o k = (stands r k.0 n.0, apart r rs k.0 k.1 o.0 (others rs j (suc j) r.0 (omega arith) h.0 h.1), are_marks rs (suc j) h.1 n.1 o.1 k.1)

-- the whole table
module _ (names : List Text) (distinct : HasNoTwice names) (table : Table) (h : IsTable names table) where
  abbrev pub texts : List (Text × Mark)
  texts = shown (name_at names) h.named.rows

  -- the marks come before the end
  pub first_within : table.first ≤ length names
  first_within =
      let is : names ≡ h.before ++ (map (λ (r : Row). r.0) h.named.rows ++ h.grows.more) = h.grows.grown ∙ ap (λ (ts : List Text). ts ++ h.grows.more) h.named.texts ∙ append_assoc h.before (map (λ (r : Row). r.0) h.named.rows) h.grows.more in
      let size : length names ≡ length h.before + length (map (λ (r : Row). r.0) h.named.rows ++ h.grows.more) = ap length is ∙ length-append h.before (map (λ (r : Row). r.0) h.named.rows ++ h.grows.more) in
      omega (arith, h.first, size)

  pub signs_known : AllByRecursion (SignNames (λ n. n < length names)) table.signs
  signs_known = all_sign_names table.signs h.known
    where
      all_sign_names : (ss : List Sign) → AllByRecursion (SignNames (λ n. n < table.first)) ss → AllByRecursion (SignNames (λ n. n < length names)) ss
      all_sign_names [] k = tt
      all_sign_names (s ∷ ss) k = (sign_names (λ n. n < table.first) (λ n. n < length names) (λ n l. omega (arith, l, first_within)) s k.0, all_sign_names ss k.1)

  pub is_naming : IsNaming (mark_in texts)
  is_naming =
      names_marks texts
      (are_marks names distinct h.named.rows table.first (are_from names table h) h.named.named (subst AreOnce (sym h.named.signs_are) h.once) (subst (AllByRecursion (SignNames (λ n. n < length names))) (sym h.named.signs_are) signs_known))

  pub mark_found : (n : ℕ) → n < length names → mark_in texts (name_at names n) ≡ mark_at names table n
  mark_found n k =
      found_in names distinct (name_at names) h.named.rows table.first n (are_from names table h) k
      ∙ ap (λ (ss : List Sign). found names distinct (name_at names) table.first ss n) h.named.signs_are
