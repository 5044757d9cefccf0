-- Sources are changed, and an image stays orderly.
use Rattle.std.proofs.Common.{◌≡◌, ℕ, zero, suc, ◌<◌, Bool, true, false, List, [], ◌∷◌, length, map, Option, None, Some, option_map, slice_get, refl, sym, ap, subst, ◌∙◌, arith}
use Rattle.std.specs.Prelude.{if◌then◌else◌}
use Rattle.std.specs.List.{AllByRecursion, cons_option}
use Rattle.std.proofs.Math.Dec.{eqb}
use Rattle.tree_model.specs.AllNames.{MethodNames}
use Rattle.st_tree.specs.View.{method_of}
use Rattle.image_model.specs.ImageNames.{OptionNames, EntryNames, DoItNames}
use Rattle.class_table.specs.declared.record.MethodRec.{MethodRec}
use Rattle.class_table.specs.declared.record.DoIt.{DoIt}
use Rattle.class_table.specs.Slots.{Slots}
use Rattle.class_table.specs.Changing.{changed_at}
use Rattle.class_table.specs.View.{live, class_name, entry_of, doit_of}
use Rattle.class_table.specs.Valid.{IsLive, IsOrderly}
use Rattle.class_table.proofs.Live.{live-fact, IsLive-first, IsLive-rest}
use Rattle.canonical_image.specs.Sources.{canonical_rec, canonical_doit_rec, first_changed, KnowsMethod, KnowsDoIt}
use Rattle.canonical_image.proofs.Slots.{get_changed, length-changed}

-- what holds of each live record holds of the list of them
live_all : {X Y : Type 0} (P : Y → Type 0) (g : X → Y) (xs : List X) (order : List ℕ)
    → ((k : ℕ) (x : X) → IsLive order k → slice_get xs k ≡ Some x → P (g x)) → AllByRecursion P (map g (live xs order))
live_all P g xs [] h = tt
live_all {X} P g xs (k ∷ ks) h = by (slice_get xs k) refl (live_all P g xs ks (λ j x l e. h j x (IsLive-rest j k ks l) e))
  where
    by : (o : Option X) → slice_get xs k ≡ o → AllByRecursion P (map g (live xs ks)) → AllByRecursion P (map g (cons_option o (live xs ks)))
    by None e rest = rest
    by (Some x) e rest = (h k x (IsLive-first k ks) e, rest)

-- the method from which one in a changed slot comes
from_rec : (names : List (List ℕ)) (xs : List MethodRec) (k j : ℕ) (m : MethodRec) → slice_get (changed_at (canonical_rec names) xs k) j ≡ Some m
    → (n : MethodRec) × (slice_get xs j ≡ Some n) × (n.class ≡ m.class) × (n.tree ≡ m.tree)
from_rec names xs k j m e = by (eqb j k) (slice_get xs j) refl (sym (get_changed (canonical_rec names) xs k j) ∙ e)
  where
    by : (b : Bool) (o : Option MethodRec) → slice_get xs j ≡ o → (if b then option_map (canonical_rec names) o else o) ≡ Some m
        → (n : MethodRec) × (slice_get xs j ≡ Some n) × (n.class ≡ m.class) × (n.tree ≡ m.tree)
    by true None q h = absurd (cc)
    by true (Some n) q h = let same : canonical_rec names n ≡ m = cc in (n, q, ap (λ (r : MethodRec). r.class) same, ap (λ (r : MethodRec). r.tree) same)
    by false None q h = absurd (cc)
    by false (Some n) q h = let same : n ≡ m = cc in (n, q, ap (λ (r : MethodRec). r.class) same, ap (λ (r : MethodRec). r.tree) same)

-- each name in a live method has a text
pub method_known : (s : Slots) (k : ℕ) (m : MethodRec) → IsOrderly s → IsLive s.method_order k → slice_get s.methods k ≡ Some m → KnowsMethod s.names m
method_known s k m o l e = (live-fact (EntryNames (λ n. n < length s.names)) (entry_of s.classes) s.methods s.method_order k m o.names_known.methods l e).tree

-- the source of one method is changed
pub orderly_changed : (s : Slots) (k : ℕ) → IsOrderly s → IsOrderly (record s { methods = changed_at (canonical_rec s.names) s.methods k })
orderly_changed s k o = record {
  names_distinct = o.names_distinct;
  names_known = record { classes = o.names_known.classes; methods = live_all (EntryNames (λ n. n < length s.names)) (entry_of s.classes) (changed_at (canonical_rec s.names) s.methods k) s.method_order known; doits = o.names_known.doits };
  class_order = o.class_order;
  method_order = record { distinct = o.method_order.distinct; below = λ j l. omega (arith, o.method_order.below j l, length-changed (canonical_rec s.names) s.methods k) };
  class_names_distinct = o.class_names_distinct;
  superclasses_live = o.superclasses_live;
  method_classes_live = λ j m l e. let from = from_rec s.names s.methods k j m e in subst (λ (c : ℕ). IsLive s.class_order c) from.2 (o.method_classes_live j from.0 l from.1);
}
  where
    known : (j : ℕ) (m : MethodRec) → IsLive s.method_order j → slice_get (changed_at (canonical_rec s.names) s.methods k) j ≡ Some m → EntryNames (λ n. n < length s.names) (entry_of s.classes m)
    known j m l e =
        let from = from_rec s.names s.methods k j m e in
        let fact = live-fact (EntryNames (λ n. n < length s.names)) (entry_of s.classes) s.methods s.method_order j from.0 o.names_known.methods l from.1 in
        record {
          class = subst (λ (c : ℕ). OptionNames (λ n. n < length s.names) (class_name s.classes c)) from.2 fact.class;
          tree = subst (λ t. MethodNames (λ n. n < length s.names) (method_of t)) from.3 fact.tree;
        }

-- each name in a do-it has a text
pub doit_known : (names : List (List ℕ)) (xs : List DoIt) (k : ℕ) (d : DoIt) → AllByRecursion (DoItNames (λ n. n < length names)) (map doit_of xs) → slice_get xs k ≡ Some d → KnowsDoIt names d
doit_known names [] k d a e = absurd (cc)
doit_known names (x ∷ xs) zero d a e = let same : x ≡ d = cc in subst (λ (y : DoIt). KnowsDoIt names y) same a.0
doit_known names (x ∷ xs) (suc k) d a e = doit_known names xs k d a.1 e

-- the sources of the first do-its are changed
pub orderly_first : (s : Slots) (n : ℕ) → IsOrderly s → IsOrderly (record s { doits = first_changed (canonical_doit_rec s.names) n s.doits })
orderly_first s n o = record {
  names_distinct = o.names_distinct;
  names_known = record { classes = o.names_known.classes; methods = o.names_known.methods; doits = all n s.doits o.names_known.doits };
  class_order = o.class_order;
  method_order = o.method_order;
  class_names_distinct = o.class_names_distinct;
  superclasses_live = o.superclasses_live;
  method_classes_live = o.method_classes_live;
}
  where
    all : (n : ℕ) (ds : List DoIt) → AllByRecursion (DoItNames (λ n. n < length s.names)) (map doit_of ds)
        → AllByRecursion (DoItNames (λ n. n < length s.names)) (map doit_of (first_changed (canonical_doit_rec s.names) n ds))
    all zero ds a = a
    all (suc n) [] a = tt
    all (suc n) (d ∷ ds) a = (a.0, all n ds a.1)
