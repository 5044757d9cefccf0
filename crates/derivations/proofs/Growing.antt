-- Marks in a table of names that grows.
use Rattle.std.proofs.Common.{◌≡◌, ℕ, zero, suc, ◌-◌, ◌<◌, Bool, true, false, List, [], ◌∷◌, length, map, slice_get, refl, sym, ap, subst}
use Rattle.std.specs.Prelude.{nat_lt, if◌then◌else◌}
use Rattle.std.specs.List.{AllByRecursion}
use Rattle.std.specs.Option.{option_map_or}
use Rattle.rb_base.specs.Names.{name_at, HasNoTwice}
use Rattle.tree_model.specs.Tree.{TreeOf}
use Rattle.tree_model.proofs.AllNamesLemmas.{map_names-same, AllNames-implies}
use Rattle.event_trees.specs.Naming.{Grows}
use Rattle.event_trees.proofs.Known.{Grows-twice}
use Rattle.rewritten_code.proofs.Growing.{same_text}
use Rattle.certified_model.specs.Marks.{Text, plain}
use Rattle.derivations.specs.Signs.{Sign, mark_by}
use Rattle.derivations.specs.Numbered.{Table}
use Rattle.derivations.specs.Taken.{SignNames, IsTable, mark_at, marks_of, AreKnown}
use Rattle.derivations.proofs.Alike.{sign_marked}
use Rattle.derivations.proofs.MarkTexts.{Row, shown, signs_known}

-- a table of marks stays one
abbrev pub still_table : {names later : List Text} {table : Table} → IsTable names table → Grows names later → IsTable later table
still_table h g = record { before = h.before; made = h.made; first = h.first; once = h.once; known = h.known; named = h.named; grows = Grows-twice h.grows g }

module _ {names later : List Text} (g : Grows names later) (distinct : HasNoTwice names) (table : Table) (h : IsTable names table) where
  same_sign_mark : (s : Sign) → SignNames (λ n. n < length names) s → mark_by (name_at later) s ≡ mark_by (name_at names) s
  same_sign_mark s k = sign_marked (λ n. n < length names) (name_at later) (name_at names) (same_text g) s k

  -- a number keeps its mark
  same_found : (ss : List Sign) (i : ℕ) (t u : Text) → AllByRecursion (SignNames (λ n. n < length names)) ss → t ≡ u
      → option_map_or (mark_by (name_at later)) (slice_get ss i) (plain t) ≡ option_map_or (mark_by (name_at names)) (slice_get ss i) (plain u)
  same_found [] i t u k e = ap plain e
  same_found (s ∷ ss) zero t u k e = same_sign_mark s k.0
  same_found (s ∷ ss) (suc i) t u k e = same_found ss i t u k.1 e

  pub same_mark : (n : ℕ) → n < length names → mark_at later table n ≡ mark_at names table n
  same_mark n k = by (nat_lt n table.first)
    where
      by : (b : Bool) → (if b then plain (name_at later n) else option_map_or (mark_by (name_at later)) (slice_get table.signs (n - table.first)) (plain (name_at later n)))
          ≡ (if b then plain (name_at names n) else option_map_or (mark_by (name_at names)) (slice_get table.signs (n - table.first)) (plain (name_at names n)))
      by true = ap plain (same_text g n k)
      by false = same_found table.signs (n - table.first) (name_at later n) (name_at names n) (signs_known names distinct table h) (same_text g n k)

  pub same_marks : (t : TreeOf ℕ) → AreKnown names t → marks_of later table t ≡ marks_of names table t
  same_marks t k = map_names-same (mark_at later table) (mark_at names table) t (AllNames-implies (λ n. n < length names) (λ n. mark_at later table n ≡ mark_at names table n) same_mark t k)

  -- the texts with their marks are the same
  same_rows : (rows : List Row) → AllByRecursion (SignNames (λ n. n < length names)) (map (λ (r : Row). r.1) rows) → shown (name_at later) rows ≡ shown (name_at names) rows
  same_rows [] k = refl
  same_rows (r ∷ rs) k = λ i. (r.0, same_sign_mark r.1 k.0 i) ∷ same_rows rs k.1 i

  pub same_texts : shown (name_at later) h.named.rows ≡ shown (name_at names) h.named.rows
  same_texts = same_rows h.named.rows (subst (AllByRecursion (SignNames (λ n. n < length names))) (sym h.named.signs_are) (signs_known names distinct table h))
