-- The slots without the methods of a class, a side and a selector.
use Rattle.std.proofs.Common.{◌≡◌, ℕ, ◌+◌, ◌<◌, Bool, true, false, cond, not, List, [], ◌∷◌, ◌++◌, length, take, drop, map, filter, None, Some, slice_get, refl, sym, ap, subst, ◌∙◌}
use Rattle.std.specs.Prelude.{nat_eq}
use Rattle.std.proofs.Math.Seq.{take-length, drop-length}
use Rattle.std.proofs.lemmas.List.{append-nil, append_assoc}
use Rattle.std.proofs.lemmas.List.Elements.{filter-append}
use Rattle.image_model.specs.Image.{EntryOf}
use Rattle.image_model.specs.Lookup.{is_method}
use Rattle.class_table.specs.declared.record.MethodRec.{MethodRec}
use Rattle.class_table.specs.declared.record.Place.{Place}
use Rattle.class_table.specs.declared.record.Place.TheVariants as place
use Rattle.class_table.specs.declared.record.Slot.TheVariants as slot
use Rattle.class_table.specs.Order.{without}
use Rattle.class_table.specs.Slots.{Slots}
use Rattle.class_table.specs.Valid.{IsLive, IsOrderly}
use Rattle.class_table.specs.View.{live, entry_of, number_image}
use Rattle.class_table.proofs.Live.{there, IsLive-first, IsLive-rest}
use Rattle.image_laws.proofs.Orders.{stands-live}
use Rattle.change_set.specs.declared.change.Change.{Change}
use Rattle.change_set.specs.declared.change.Change.TheVariants as change
use Rattle.command_model.specs.Commands.{RemoveMethod}
use Rattle.commands.specs.declared.command.MethodName.{MethodName}
use Rattle.plans.specs.Plan.{IsPlan}
use Rattle.users_methods.specs.Users.{is_named}
use Rattle.method_plans.proofs.Leads.{Leads, leads-nowhere, leads-same, leads-out, leads-plan}
use Rattle.method_plans.proofs.Orders.{drop-at, take-at, distinct-before, without-middle}
use Rattle.method_plans.proofs.LiveMethods.{live-cons, named-live}

-- whether a slot stays
abbrev pub stays : Slots → MethodName → ℕ → Bool
stays s method k = not (is_named s method k)

-- the order where so many slots have been looked at
abbrev pub order_at : Slots → MethodName → ℕ → List ℕ
order_at s method i = filter (stays s method) (take i s.method_order) ++ drop i s.method_order

-- the changes so far
pub record Removing (s : Slots) (method : MethodName) (i : ℕ) (cs : List Change) (ps : List Place) : Type 0 where
  pub leads : Leads s cs ps (record s { method_order = order_at s method i })

module _ (s : Slots) (o : IsOrderly s) (method : MethodName) where
  pub removing-start : Removing s method 0 [] []
  removing-start = record { leads = leads-nowhere s o }

  module _ (i k : ℕ) (at : slice_get s.method_order i ≡ Some k) where
    abbrev before : List ℕ
    before = filter (stays s method) (take i s.method_order)

    abbrev behind : List ℕ
    behind = drop (i + 1) s.method_order

    order-now : order_at s method i ≡ before ++ k ∷ behind
    order-now = ap (λ (ks : List ℕ). before ++ ks) (drop-at s.method_order i k at)

    order-next : (b : Bool) → is_named s method k ≡ b → order_at s method (i + 1) ≡ before ++ (cond (not b) (k ∷ []) [] ++ behind)
    order-next b e =
        ap (λ (ks : List ℕ). ks ++ behind) (ap (filter (stays s method)) (take-at s.method_order i k at) ∙ filter-append (stays s method) (take i s.method_order) (k ∷ []) ∙ ap (λ (c : Bool). before ++ cond (not c) (k ∷ []) []) e)
        ∙ append_assoc before (cond (not b) (k ∷ []) []) behind

    pub removing-hit : (cs : List Change) (ps : List Place) → is_named s method k ≡ true → Removing s method i cs ps
        → Removing s method (i + 1) (cs ++ change.Live (slot.Method k) None ∷ []) (ps ++ place.Method k ∷ [])
    removing-hit cs ps e now =
        let l : Leads s cs ps (record s { method_order = before ++ k ∷ behind }) = subst (λ (ks : List ℕ). Leads s cs ps (record s { method_order = ks })) order-now now.leads in
        let less : k < length s.methods = o.method_order.below k (stands-live k s.method_order i at) in
        let gone : without k (before ++ k ∷ behind) ≡ before ++ behind = without-middle k before behind (distinct-before k before behind l.orderly.method_order.distinct) in
        let next : without k (before ++ k ∷ behind) ≡ order_at s method (i + 1) = gone ∙ sym (order-next true e) in
        record {
          leads =
              leads-same s (cs ++ change.Live (slot.Method k) None ∷ []) (ps ++ place.Method k ∷ []) (record s { method_order = without k (before ++ k ∷ behind) }) (record s { method_order = order_at s method (i + 1) })
              (ap (λ (ks : List ℕ). record s { method_order = ks }) next) (leads-out s cs ps (record s { method_order = before ++ k ∷ behind }) k l less);
        }

    pub removing-miss : (cs : List Change) (ps : List Place) → is_named s method k ≡ false → Removing s method i cs ps → Removing s method (i + 1) cs ps
    removing-miss cs ps e now =
        let next : order_at s method i ≡ order_at s method (i + 1) = order-now ∙ sym (order-next false e) in
        record { leads = subst (λ (ks : List ℕ). Leads s cs ps (record s { method_order = ks })) next now.leads }

  abbrev e : MethodRec → EntryOf ℕ
  e = entry_of s.classes

  abbrev t : EntryOf ℕ → Bool
  t = is_method nat_eq method.class method.meta method.selector

  live-stays : (ks : List ℕ) → ((k : ℕ) → IsLive ks k → IsLive s.method_order k) → map e (live s.methods (filter (stays s method) ks)) ≡ filter (λ m. not (t m)) (map e (live s.methods ks))
  live-stays [] all = refl
  live-stays (k ∷ ks) all =
      let r = there s.methods k (o.method_order.below k (all k (IsLive-first k ks))) in
      by r.0 r.1 (t (e r.0)) (named-live s method k r.0 (all k (IsLive-first k ks)) r.1) refl (live-stays ks (λ j l. all j (IsLive-rest j k ks l)))
    where
      by : (r : MethodRec) → slice_get s.methods k ≡ Some r → (b : Bool) → is_named s method k ≡ b → t (e r) ≡ b → map e (live s.methods (filter (stays s method) ks)) ≡ filter (λ m. not (t m)) (map e (live s.methods ks))
          → map e (live s.methods (cond (stays s method k) (k ∷ filter (stays s method) ks) (filter (stays s method) ks))) ≡ filter (λ m. not (t m)) (map e (live s.methods (k ∷ ks)))
      by r at true hit is rest =
          ap (λ (b : Bool). map e (live s.methods (cond (not b) (k ∷ filter (stays s method) ks) (filter (stays s method) ks)))) hit
          ∙ rest
          ∙ sym (ap (filter (λ m. not (t m))) (live-cons e s.methods k r ks at) ∙ ap (λ (b : Bool). cond (not b) (e r ∷ filter (λ m. not (t m)) (map e (live s.methods ks))) (filter (λ m. not (t m)) (map e (live s.methods ks)))) is)
      by r at false hit is rest =
          ap (λ (b : Bool). map e (live s.methods (cond (not b) (k ∷ filter (stays s method) ks) (filter (stays s method) ks)))) hit
          ∙ live-cons e s.methods k r (filter (stays s method) ks) at
          ∙ ap (λ (ms : List (EntryOf ℕ)). e r ∷ ms) rest
          ∙ sym (ap (filter (λ m. not (t m))) (live-cons e s.methods k r ks at) ∙ ap (λ (b : Bool). cond (not b) (e r ∷ filter (λ m. not (t m)) (map e (live s.methods ks))) (filter (λ m. not (t m)) (map e (live s.methods ks)))) is)

  pub removing-same : (i : ℕ) (cs ds : List Change) (ps qs : List Place) → ds ≡ cs → qs ≡ ps → Removing s method i cs ps → Removing s method i ds qs
  removing-same i cs ds ps qs a b now = record { leads = subst (λ (xs : List Change). Leads s xs qs (record s { method_order = order_at s method i })) (sym a) (subst (λ (xs : List Place). Leads s cs xs (record s { method_order = order_at s method i })) (sym b) now.leads) }

  -- all slots have been looked at
  pub removed : (cs : List Change) (ps : List Place) → Removing s method (length s.method_order) cs ps → IsPlan s (RemoveMethod method.class method.meta method.selector) cs ps
  removed cs ps now =
      let order = order_at s method (length s.method_order) in
      let all : order ≡ filter (stays s method) s.method_order = (λ i. filter (stays s method) (take-length s.method_order i) ++ drop-length s.method_order i) ∙ append-nil (filter (stays s method) s.method_order) in
      let methods : map e (live s.methods order) ≡ filter (λ m. not (t m)) (map e (live s.methods s.method_order)) = ap (λ (ks : List ℕ). map e (live s.methods ks)) all ∙ live-stays s.method_order (λ k l. l) in
      leads-plan s (RemoveMethod method.class method.meta method.selector) cs ps (record s { method_order = order }) now.leads refl (ap (λ (ms : List (EntryOf ℕ)). record (number_image s) { methods = ms }) methods)
