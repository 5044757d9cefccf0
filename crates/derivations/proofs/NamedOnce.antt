-- Names for marks, one after the other.
use Rattle.std.proofs.Common.{◌≡◌, Bool, true, false, List, [], ◌∷◌, ◌++◌, length, map, refl, sym, ap, ◌∙◌, append_assoc, append-nil}
use Rattle.std.specs.Prelude.{if◌then◌else◌, ◌&&◌}
use Rattle.std.specs.List.{AllByRecursion, list_all}
use Rattle.std.proofs.lemmas.List.{map-append}
use Rattle.token_model.specs.Bytes.{is_digit}
use Rattle.certified_model.specs.Marks.{Text}
use Rattle.derivations.specs.Signs.{Sign}
use Rattle.derivations.specs.Numbered.{Table}
use Rattle.derivations.specs.Named.{first_byte, IsNameFor, has_sign, with_sign, IsNamedOnce}
use Rattle.derivations.proofs.MarkTexts.{Row}
use Rattle.derivations.proofs.Once.{put_twice}

-- digits that go on
digits_more : (ds : Text) → list_all is_digit ds ≡ true → list_all is_digit (ds ++ 48 ∷ []) ≡ true
digits_more [] h = refl
digits_more (d ∷ ds) h = by (is_digit d) h (digits_more ds)
  where
    by : (b : Bool) → (b && list_all is_digit ds) ≡ true → (list_all is_digit ds ≡ true → list_all is_digit (ds ++ 48 ∷ []) ≡ true) → (b && list_all is_digit (ds ++ 48 ∷ [])) ≡ true
    by true e f = f e
    by false e f = let bad : ⊥ = cc in absurd bad

pub name_first : (s : Sign) (t : Text) → t ≡ first_byte s ∷ [] → IsNameFor t s
name_first s t e = record { digits = []; are_digits = refl; spelled = e }

pub name_more : (s : Sign) (t u : Text) → IsNameFor t s → u ≡ t ++ 48 ∷ [] → IsNameFor u s
name_more s t u n e = record { digits = n.digits ++ 48 ∷ []; are_digits = digits_more n.digits n.are_digits; spelled = e ∙ ap (λ (x : Text). x ++ 48 ∷ []) n.spelled }

-- no marks
pub none_named : (names : List Text) (table : Table) → table.first ≡ length names → table.signs ≡ [] → IsNamedOnce names [] table names
none_named names table f e = record {
  first = f;
  once = e;
  named = record { rows = []; texts = sym (append-nil names); signs_are = sym e; named = tt };
}

-- one that is there
pub named_still : (before names : List Text) (all : List Sign) (s : Sign) (table : Table) → IsNamedOnce before all table names → has_sign table.signs s ≡ true → IsNamedOnce before (all ++ s ∷ []) table names
named_still before names all s table h e = record {
  first = h.first;
  once = (ap (λ (b : Bool). if b then table.signs else table.signs ++ s ∷ []) (sym e)) ∙ ap (λ (ss : List Sign). with_sign ss s) h.once ∙ sym (put_twice [] all (s ∷ []));
  named = h.named;
}

-- one more row
rows_more : (rows : List Row) (r : Row) → AllByRecursion (λ (q : Row). IsNameFor q.0 q.1) rows → IsNameFor r.0 r.1 → AllByRecursion (λ (q : Row). IsNameFor q.0 q.1) (rows ++ r ∷ [])
rows_more [] r h n = (n, tt)
rows_more (q ∷ rows) r h n = (h.0, rows_more rows r h.1 n)

-- one more mark
pub named_more : (before names later : List Text) (all : List Sign) (s : Sign) (table after : Table) → IsNamedOnce before all table names → has_sign table.signs s ≡ false
    → (t : Text) → IsNameFor t s → later ≡ names ++ t ∷ [] → after.first ≡ table.first → after.signs ≡ table.signs ++ s ∷ [] → IsNamedOnce before (all ++ s ∷ []) after later
named_more before names later all s table after h e t n g f more = record {
  first = f ∙ h.first;
  once = more ∙ ap (λ (b : Bool). if b then table.signs else table.signs ++ s ∷ []) (sym e) ∙ ap (λ (ss : List Sign). with_sign ss s) h.once ∙ sym (put_twice [] all (s ∷ []));
  named = record {
    rows = h.named.rows ++ (t, s) ∷ [];
    texts =
        g ∙ ap (λ (ts : List Text). ts ++ t ∷ []) h.named.texts
        ∙ append_assoc before (map (λ (r : Row). r.0) h.named.rows) (t ∷ [])
        ∙ ap (λ (ts : List Text). before ++ ts) (sym (map-append (λ (r : Row). r.0) h.named.rows ((t, s) ∷ [])));
    signs_are = map-append (λ (r : Row). r.1) h.named.rows ((t, s) ∷ []) ∙ ap (λ (ss : List Sign). ss ++ s ∷ []) h.named.signs_are ∙ sym more;
    named = rows_more h.named.rows (t, s) h.named.named n;
  };
}
