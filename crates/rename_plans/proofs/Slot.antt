-- What the slot of a class holds that is found by its name.
use Rattle.std.proofs.Common.{◌≡◌, ℕ, Bool, List, [], ◌∷◌, Option, Some, None, slice_get, sym, ap, ◌∙◌}
use Rattle.std.specs.Prelude.{if◌then◌else◌}
use Rattle.std.specs.Option.{option_and_then, option_map_or}
use Rattle.class_table.specs.declared.record.ClassRec.{ClassRec}
use Rattle.class_table.specs.Slots.{Slots}
use Rattle.class_table.specs.Finding.{is_named, named_in}
use Rattle.class_table.specs.View.{live_at}
use Rattle.class_table.proofs.Live.{find-passes}
use Rattle.change_set.specs.declared.change.Change.TheVariants as change
use Rattle.renamed_code.specs.Anew.{RenamedOf}
use Rattle.plan_laws.specs.Planned.{class_renamed_in, class_rec_after, class_changes}

-- a class that is found is live
pub found_there : (classes : List ClassRec) (order : List ℕ) (name k : ℕ) → named_in classes order name ≡ Some k → live_at classes order k ≡ slice_get classes k
found_there classes order name k e = ap (λ (b : Bool). if b then slice_get classes k else None) (find-passes (is_named classes name) order k e).1

-- no record, and no change
pub no_record : (s : Slots) (what : RenamedOf ℕ) (to c k : ℕ) → class_renamed_in what ≡ Some c → named_in s.classes s.class_order c ≡ Some k → live_at s.classes s.class_order k ≡ None → class_changes s what to ≡ []
no_record s what to c k is found none =
    ap (λ (p : Option ℕ). option_map_or (λ j. option_map_or (λ (q : ClassRec). change.Class j (class_rec_after what to q) ∷ []) (slice_get s.classes j) []) (option_and_then (named_in s.classes s.class_order) p) []) is
    ∙ ap (λ (p : Option ℕ). option_map_or (λ j. option_map_or (λ (q : ClassRec). change.Class j (class_rec_after what to q) ∷ []) (slice_get s.classes j) []) p []) found
    ∙ ap (λ (p : Option ClassRec). option_map_or (λ (q : ClassRec). change.Class k (class_rec_after what to q) ∷ []) p []) (sym (found_there s.classes s.class_order c k found) ∙ none)
