-- Changes that lead from slots to orderly slots, one after the other.
use Rattle.std.proofs.Common.{◌≡◌, ◌⊎◌, inl, inr, ℕ, ◌<◌, ◌≤◌, ◌||◌, Bool, true, false, List, [], ◌∷◌, ◌++◌, length, Option, None, Some, slice_get, refl, sym, ap, subst, ◌∙◌}
use Rattle.std.specs.Prelude.{if◌then◌else◌}
use Rattle.std.specs.List.{AllByRecursion, list_any}
use Rattle.std.specs.Option.{option_map_or}
use Rattle.std.proofs.Math.Dec.{eqb}
use Rattle.std.proofs.lemmas.Bool.Decides.{eqb_tells}
use Rattle.std.proofs.lemmas.List.Elements.{Contains-append_left, Contains-append_right}
use Rattle.std.proofs.lemmas.Option.{slice_get_within}
use Rattle.st_tree.specs.View.{method_of}
use Rattle.class_table.specs.declared.record.MethodRec.{MethodRec}
use Rattle.class_table.specs.declared.record.Place.{Place}
use Rattle.class_table.specs.declared.record.Place.TheVariants as place
use Rattle.class_table.specs.declared.record.Slot.TheVariants as slot
use Rattle.class_table.specs.Order.{Distinct, without, put_at}
use Rattle.class_table.specs.Slots.{Slots}
use Rattle.class_table.specs.Valid.{IsOrderly}
use Rattle.class_table.specs.View.{number_image}
use Rattle.class_table.specs.Kept.{FitsMethod}
use Rattle.class_table.specs.Changing.{with_live}
use Rattle.class_table.proofs.OrderLemmas.{any-without, any-insert}
use Rattle.class_table.proofs.KeptLemmas.{method-added, method-taken_out, method-put_in}
use Rattle.change_set.specs.declared.change.Change.{Change}
use Rattle.change_set.specs.declared.change.Change.TheVariants as change
use Rattle.change_set.specs.Change.{applied, CanApply}
use Rattle.change_set.specs.Changes.{all_applied, inverses, CanApplyAll}
use Rattle.wider_slots.specs.Closed.{FitsIn}
use Rattle.wider_slots.specs.Wider.{one_method, widened}
use Rattle.wider_slots.proofs.Append.{get-append}
use Rattle.wider_slots.proofs.Lists.{redoes-still, redoes-both}
use Rattle.wider_slots.proofs.NewSlots as new_slots
use Rattle.wider_slots.proofs.Opened.{all-append}
use Rattle.wider_slots.proofs.Widening.{all-fit-wider}
use Rattle.command_model.specs.Commands.{CommandOf}
use Rattle.command_model.specs.Effects.{effect}
use Rattle.command_model.specs.Numbers.{number_writing}
use Rattle.commands.specs.Views.{asked_by}
use Rattle.mentions.specs.Mentions.{method_names}
use Rattle.mentions.proofs.Lists.{Contains-first}
use Rattle.reference_index.specs.Mentioned.{names_at, DiffersAtMost}
use Rattle.plans.specs.Plan.{IsPlan}

-- the changes can be applied, each at its turn, and lead to orderly slots whose code mentions other names at most at the places
pub record Leads (s : Slots) (cs : List Change) (ps : List Place) (t : Slots) : Type 0 where
  pub can : CanApplyAll s cs
  pub fit : AllByRecursion (FitsIn s) cs
  pub is : all_applied s cs ≡ t
  pub orderly : IsOrderly t
  pub touched : DiffersAtMost s t ps

pub leads-nowhere : (s : Slots) → IsOrderly s → Leads s [] [] s
leads-nowhere s o = record { can = tt; fit = tt; is = refl; orderly = o; touched = λ p not. refl }

-- one more change
pub leads-on : (s : Slots) (cs : List Change) (ps : List Place) (t : Slots) (c : Change) (qs : List Place) → Leads s cs ps t → CanApply t c → FitsIn s c → IsOrderly (applied t c)
    → DiffersAtMost t (applied t c) qs → Leads s (cs ++ c ∷ []) (ps ++ qs) (applied t c)
leads-on s cs ps t c qs l can fit orderly differs =
    let both =
    redoes-both s t (applied t c) cs (c ∷ []) (inverses s cs) (inverses t (c ∷ [])) (record { can = l.can; image = l.is; changes = refl }) (record { can = (can, tt); image = refl; changes = refl }) in
    record {
      can = both.can;
      fit = all-append (FitsIn s) cs (c ∷ []) l.fit (fit, tt);
      is = both.image;
      orderly = orderly;
      touched = λ p not. differs p (λ h. not (Contains-append_right ps qs p h)) ∙ l.touched p (λ h. not (Contains-append_left ps qs p h));
    }

-- the same slots
pub leads-same : (s : Slots) (cs : List Change) (ps : List Place) (t u : Slots) → t ≡ u → Leads s cs ps t → Leads s cs ps u
leads-same s cs ps t u e l = subst (Leads s cs ps) e l

-- whether another slot is live after one is moved
any-moved : (j k : ℕ) (at : Option ℕ) (order : List ℕ) → Distinct order → eqb j k ≡ false → list_any (eqb j) (put_at k at (without k order)) ≡ list_any (eqb j) order
any-moved j k None order d e = any-without k j order d ∙ ap (λ (b : Bool). if b then false else list_any (eqb j) order) e
any-moved j k (Some p) order d e =
    any-insert k (eqb j) (without k order) p
    ∙ ap (λ (b : Bool). b || list_any (eqb j) (without k order)) e
    ∙ any-without k j order d
    ∙ ap (λ (b : Bool). if b then false else list_any (eqb j) order) e

-- the names at other places stay where the slot of a method moves
moved-touches : (t : Slots) → IsOrderly t → (k : ℕ) (at : Option ℕ) → DiffersAtMost t (with_live t (slot.Method k) at) (place.Method k ∷ [])
moved-touches t o k at (place.DoIt n) not = refl
moved-touches t o k at (place.Method j) not = by (eqb_tells j k)
  where
    by : ((eqb j k ≡ true) × (j ≡ k)) ⊎ ((eqb j k ≡ false) × (j ≡ k → ⊥)) → names_at (with_live t (slot.Method k) at) (place.Method j) ≡ names_at t (place.Method j)
    by (inl e) = absurd (not (Contains-first (place.Method k) (place.Method j) [] (ap place.Method (sym e.1))))
    by (inr e) =
        ap (λ (b : Bool). option_map_or (λ (m : MethodRec). method_names (method_of m.tree)) (if b then slice_get t.methods j else None) [])
        (any-moved j k at t.method_order o.method_order.distinct e.0)

-- a method that goes
pub leads-out : (s : Slots) (cs : List Change) (ps : List Place) (t : Slots) (k : ℕ) → Leads s cs ps t → k < length t.methods
    → Leads s (cs ++ change.Live (slot.Method k) None ∷ []) (ps ++ place.Method k ∷ []) (with_live t (slot.Method k) None)
leads-out s cs ps t k l less =
    leads-on s cs ps t (change.Live (slot.Method k) None) (place.Method k ∷ []) l (less, λ x e. absurd (cc)) tt (method-taken_out t l.orderly k) (moved-touches t l.orderly k None)

-- a method that comes to a place
pub leads-in : (s : Slots) (cs : List Change) (ps : List Place) (t : Slots) (k p : ℕ) (m : MethodRec) → Leads s cs ps t → slice_get t.methods k ≡ Some m → FitsMethod t m → p ≤ length (without k t.method_order)
    → Leads s (cs ++ change.Live (slot.Method k) (Some p) ∷ []) (ps ++ place.Method k ∷ []) (with_live t (slot.Method k) (Some p))
leads-in s cs ps t k p m l there fits within =
    leads-on s cs ps t (change.Live (slot.Method k) (Some p)) (place.Method k ∷ []) l
    (slice_get_within t.methods k m there, λ x e. (let same : p ≡ x = cc in subst (λ (q : ℕ). q ≤ length (without k t.method_order)) same within)) tt
    (method-put_in t l.orderly k p m there fits) (moved-touches t l.orderly k (Some p))

-- the names at a place stay where there is room for one more method
roomy-names : (t : Slots) → IsOrderly t → (m : MethodRec) (p : Place) → names_at (widened (one_method m) t) p ≡ names_at t p
roomy-names t o m (place.DoIt n) = refl
roomy-names t o m (place.Method k) = ap (λ (q : Option MethodRec). option_map_or (λ (x : MethodRec). method_names (method_of x.tree)) q []) (by (list_any (eqb k) t.method_order) refl)
  where
    by : (b : Bool) → list_any (eqb k) t.method_order ≡ b → (if b then slice_get (t.methods ++ m ∷ []) k else None) ≡ (if b then slice_get t.methods k else None)
    by true e = get-append t.methods (m ∷ []) k (o.method_order.below k e)
    by false e = refl

pub roomy-orderly : (t : Slots) → IsOrderly t → (m : MethodRec) → FitsMethod t m → IsOrderly (widened (one_method m) t)
roomy-orderly t o m fits =
    let added : Slots = record t { methods = t.methods ++ m ∷ []; method_order = t.method_order ++ length t.methods ∷ [] } in
    subst IsOrderly (new_slots.method-added t m (record { classes = o.class_order; methods = o.method_order })) (method-taken_out added (method-added t o m fits) (length t.methods))

-- the changes lead to the same where there is room for one more method
pub leads-roomy : (s : Slots) (cs : List Change) (ps : List Place) (t : Slots) (m : MethodRec) → IsOrderly s → Leads s cs ps t → FitsMethod t m → Leads (widened (one_method m) s) cs ps (widened (one_method m) t)
leads-roomy s cs ps t m o l fits =
    let still = redoes-still (one_method m) s cs l.can in
    record {
      can = still.can;
      fit = all-fit-wider (one_method m) s cs l.fit;
      is = still.image ∙ ap (widened (one_method m)) l.is;
      orderly = roomy-orderly t l.orderly m fits;
      touched = λ p not. roomy-names t l.orderly m p ∙ l.touched p not ∙ sym (roomy-names s o m p);
    }

-- the changes of a plan
pub leads-plan : (s : Slots) (command : CommandOf ℕ) (cs : List Change) (ps : List Place) (t : Slots) → Leads s cs ps t → t.names ≡ s.names
    → number_image t ≡ effect (asked_by s.names) (number_writing s.names) command (number_image s) → IsPlan s command cs ps
leads-plan s command cs ps t l names is = record {
  can = l.can;
  fit = l.fit;
  effect = ap number_image l.is ∙ is;
  names = ap (λ (u : Slots). u.names) l.is ∙ names;
  orderly = subst IsOrderly (sym l.is) l.orderly;
  touched = subst (λ (u : Slots). DiffersAtMost s u ps) (sym l.is) l.touched;
}
