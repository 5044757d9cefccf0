-- The slots in which the user's methods of a class, a side and a selector get a tree.
use Rattle.std.proofs.Common.{◌≡◌, ◌⊎◌, inl, inr, ℕ, ◌+◌, ◌<◌, Bool, true, false, List, [], ◌∷◌, ◌++◌, length, take, drop, map, Option, None, Some, option_map, slice_get, refl, sym, ap, subst, ◌∙◌}
use Rattle.std.specs.Prelude.{nat_eq, not, ◌&&◌, if◌then◌else◌}
use Rattle.std.specs.List.{list_any}
use Rattle.std.specs.Option.{option_map_or, option_and_then}
use Rattle.std.proofs.Math.Dec.{eqb}
use Rattle.std.proofs.Math.ListN.{set}
use Rattle.std.proofs.Math.Seq.{take-length}
use Rattle.std.proofs.lemmas.Bool.Decides.{eqb_tells}
use Rattle.std.proofs.lemmas.List.{map-append, append-nil}
use Rattle.std.proofs.lemmas.Option.{slice_get_within}
use Rattle.tree_model.specs.Tree.{MethodOf}
use Rattle.tree_model.specs.AllNames.{MethodNames}
use Rattle.same_trees.specs.SameTrees.{same_code}
use Rattle.st_tree.specs.View.{method_of}
use Rattle.st_tree.specs.declared.tree.Method.{Method}
use Rattle.image_model.specs.Image.{EntryOf, ImageOf}
use Rattle.image_model.specs.Lookup.{is_method}
use Rattle.class_table.specs.declared.record.MethodRec.{MethodRec}
use Rattle.class_table.specs.declared.record.Place.{Place}
use Rattle.class_table.specs.declared.record.Place.TheVariants as place
use Rattle.class_table.specs.Order.{Distinct}
use Rattle.class_table.specs.Slots.{Slots}
use Rattle.class_table.specs.Valid.{IsLive, IsOrderly}
use Rattle.class_table.specs.View.{live, live_at, entry_of, number_image}
use Rattle.class_table.specs.Kept.{FitsMethod}
use Rattle.class_table.proofs.Live.{there, live-same, IsLive-first, IsLive-rest}
use Rattle.class_table.proofs.OrderLemmas.{get-set_same, get-set_other}
use Rattle.class_table.proofs.KeptLemmas.{method-fits, method-swapped}
use Rattle.class_questions.proofs.AnyLive.{live_at-live}
use Rattle.image_laws.proofs.Orders.{stands-live}
use Rattle.change_set.specs.declared.change.Change.{Change}
use Rattle.change_set.specs.declared.change.Change.TheVariants as change
use Rattle.command_model.specs.Commands.{CommandOf}
use Rattle.command_model.specs.Numbers.{number_writing}
use Rattle.commands.specs.declared.command.MethodName.{MethodName}
use Rattle.mentions.specs.Mentions.{method_names}
use Rattle.mentions.proofs.Lists.{Contains-first}
use Rattle.reference_index.specs.Mentioned.{DiffersAtMost}
use Rattle.wider_slots.proofs.Fitting as fitting
use Rattle.plans.specs.Plan.{IsPlan}
use Rattle.method_plans.proofs.Leads.{Leads, leads-nowhere, leads-on, leads-plan}
use Rattle.method_plans.proofs.Orders.{drop-at, take-at, parts-at, distinct-before, distinct-right, live-apart}
use Rattle.method_plans.proofs.LiveMethods.{live-append, live-cons}
use Rattle.users_methods.specs.Users.{is_users}
use Rattle.temporary_plans.specs.Retold.{retold_at, Retells}
use Rattle.temporary_plans.proofs.First.{users-live}

-- the text of a tree
abbrev text : Slots → MethodOf ℕ → List ℕ
text s tree = (number_writing s.names).method_text tree

-- a method with a tree in normal form, if that is another one
abbrev told_as : Slots → MethodOf ℕ → EntryOf ℕ → EntryOf ℕ
told_as s tree m = if same_code nat_eq m.tree tree then m else record m { tree = tree; source = text s tree }

-- a method as it is after
abbrev after_of : Slots → MethodName → MethodOf ℕ → EntryOf ℕ → EntryOf ℕ
after_of s method tree m = if is_method nat_eq method.class method.meta method.selector m && not m.kernel then told_as s tree m else m

-- the names in the code of a method, if there is one
abbrev names : Option MethodRec → List ℕ
names q = option_map_or (λ (m : MethodRec). method_names (method_of m.tree)) q []

-- the change of the method in a slot, and its place, if it gets another tree
abbrev pub changes_of : Slots → Method → ℕ → List Change
changes_of s tree k = option_map_or (λ (m : MethodRec). change.Method k m ∷ []) (retold_at s tree k) []

abbrev pub places_of : Slots → Method → ℕ → List Place
places_of s tree k = option_map_or (λ (m : MethodRec). place.Method k ∷ []) (retold_at s tree k) []

-- the changes so far, where so many slots have been looked at
pub record Retelling (s : Slots) (method : MethodName) (tree : Method) (i : ℕ) (cs : List Change) (ps : List Place) : Type 0 where
  pub methods : List MethodRec
  pub leads : Leads s cs ps (record s { methods = methods })
  pub done : map (entry_of s.classes) (live methods (take i s.method_order)) ≡ map (after_of s method (method_of tree)) (map (entry_of s.classes) (live s.methods (take i s.method_order)))
  pub rest : (k : ℕ) → IsLive (drop i s.method_order) k → slice_get methods k ≡ slice_get s.methods k
  pub others : (k : ℕ) → list_any (eqb k) s.method_order ≡ false → slice_get methods k ≡ slice_get s.methods k

pub retelling-same : (s : Slots) (method : MethodName) (tree : Method) (i : ℕ) (cs ds : List Change) (ps qs : List Place) → ds ≡ cs → qs ≡ ps → Retelling s method tree i cs ps → Retelling s method tree i ds qs
retelling-same s method tree i cs ds ps qs a b now = subst (λ (xs : List Change). Retelling s method tree i xs qs) (sym a) (subst (λ (xs : List Place). Retelling s method tree i cs xs) (sym b) now)

module _ (s : Slots) (o : IsOrderly s) (method : MethodName) (tree : Method) (known : MethodNames (λ n. n < length s.names) (method_of tree)) where
  abbrev e : MethodRec → EntryOf ℕ
  e = entry_of s.classes

  abbrev after : EntryOf ℕ → EntryOf ℕ
  after = after_of s method (method_of tree)

  pub retelling-start : (cs : List Change) (ps : List Place) → cs ≡ [] → ps ≡ [] → Retelling s method tree 0 cs ps
  retelling-start cs ps a b = retelling-same s method tree 0 [] cs [] ps a b (record { methods = s.methods; leads = leads-nowhere s o; done = refl; rest = λ k l. refl; others = λ k l. refl })

  module _ (i k : ℕ) (r : MethodRec) (at : slice_get s.method_order i ≡ Some k) (there : slice_get s.methods k ≡ Some r) where
    abbrev before : List ℕ
    before = take i s.method_order

    abbrev behind : List ℕ
    behind = drop (i + 1) s.method_order

    is_live : IsLive s.method_order k
    is_live = stands-live k s.method_order i at

    parts : Distinct (before ++ k ∷ behind)
    parts = subst Distinct (parts-at s.method_order i k at) o.method_order.distinct

    apart-before : (j : ℕ) → IsLive before j → k ≡ j → ⊥
    apart-before j l = live-apart j k before (distinct-before k before behind parts) l

    apart-behind : (j : ℕ) → IsLive behind j → k ≡ j → ⊥
    apart-behind j l = live-apart j k behind (distinct-right before (k ∷ behind) parts).0 l

    -- a slot at the end of those that have been looked at
    one-more : (methods : List MethodRec) (n : MethodRec) → map e (live methods before) ≡ map after (map e (live s.methods before)) → slice_get methods k ≡ Some n → e n ≡ after (e r)
        → map e (live methods (take (i + 1) s.method_order)) ≡ map after (map e (live s.methods (take (i + 1) s.method_order)))
    one-more methods n so last is =
        ap (λ (ks : List ℕ). map e (live methods ks)) (take-at s.method_order i k at)
        ∙ live-append e methods before (k ∷ [])
        ∙ (λ j. so j ++ (live-cons e methods k n [] last ∙ ap (λ (m : EntryOf ℕ). m ∷ []) is) j)
        ∙ sym (
        ap (λ (ks : List ℕ). map after (map e (live s.methods ks))) (take-at s.method_order i k at)
        ∙ ap (map after) (live-append e s.methods before (k ∷ []) ∙ ap (λ (ms : List (EntryOf ℕ)). map e (live s.methods before) ++ ms) (live-cons e s.methods k r [] there))
        ∙ map-append after (map e (live s.methods before)) (e r ∷ []))

    behind-still : (j : ℕ) → IsLive behind j → IsLive (drop i s.method_order) j
    behind-still j l = subst (λ (ks : List ℕ). IsLive ks j) (sym (drop-at s.method_order i k at)) (IsLive-rest j k behind l)

    here-still : IsLive (drop i s.method_order) k
    here-still = subst (λ (ks : List ℕ). IsLive ks k) (sym (drop-at s.method_order i k at)) (IsLive-first k behind)

    after-is : (b : Bool) → is_users s method k ≡ b → after (e r) ≡ (if b then told_as s (method_of tree) (e r) else e r)
    after-is b h = ap (λ (c : Bool). if c then told_as s (method_of tree) (e r) else e r) (sym (users-live s o method k r is_live there) ∙ h)

    told-is : (b : Bool) → same_code nat_eq (method_of r.tree) (method_of tree) ≡ b → told_as s (method_of tree) (e r) ≡ (if b then e r else record (e r) { tree = method_of tree; source = text s (method_of tree) })
    told-is b h = ap (λ (c : Bool). if c then e r else record (e r) { tree = method_of tree; source = text s (method_of tree) }) h

    -- the method stays
    stays : (cs : List Change) (ps : List Place) → e r ≡ after (e r) → Retelling s method tree i cs ps → Retelling s method tree (i + 1) cs ps
    stays cs ps is now = record {
      methods = now.methods;
      leads = now.leads;
      done = one-more now.methods r now.done (now.rest k here-still ∙ there) is;
      rest = λ j l. now.rest j (behind-still j l);
      others = now.others;
    }

    -- the method with the tree
    abbrev rec : MethodRec
    rec = record r { tree = tree; source = text s (method_of tree) }

    fits : FitsMethod s rec
    fits = record { names_known = known; class_live = (method-fits s o k r is_live there).class_live }

    rec-is : (b : Bool) → same_code nat_eq (method_of r.tree) (method_of tree) ≡ b → retold_at s tree k ≡ (if b then None else Some rec)
    rec-is b h =
        ap (option_and_then (λ (m : MethodRec). if same_code nat_eq (method_of m.tree) (method_of tree) then None else Some (record m { tree = tree; source = text s (method_of tree) }))) (live_at-live s.methods s.method_order k is_live ∙ there)
        ∙ ap (λ (c : Bool). if c then None else Some rec) h

    -- the code of other slots stays
    touches : (methods : List MethodRec) → DiffersAtMost (record s { methods = methods }) (record s { methods = set methods k rec }) (place.Method k ∷ [])
    touches methods (place.DoIt n) not = refl
    touches methods (place.Method j) not = by (eqb_tells k j)
      where
        by : ((eqb k j ≡ true) × (k ≡ j)) ⊎ ((eqb k j ≡ false) × (k ≡ j → ⊥)) → names (live_at (set methods k rec) s.method_order j) ≡ names (live_at methods s.method_order j)
        by (inl t) = absurd (not (Contains-first (place.Method k) (place.Method j) [] (ap place.Method t.1)))
        by (inr t) = ap (λ (q : Option MethodRec). names (if list_any (eqb j) s.method_order then q else None)) (get-set_other methods k j rec t.1)

    changes : (cs : List Change) (ps : List Place) → e rec ≡ after (e r) → Retelling s method tree i cs ps → Retelling s method tree (i + 1) (cs ++ change.Method k rec ∷ []) (ps ++ place.Method k ∷ [])
    changes cs ps is now =
        let stands : slice_get now.methods k ≡ Some r = now.rest k here-still ∙ there in
        let less : k < length now.methods = slice_get_within now.methods k r stands in
        record {
          methods = set now.methods k rec;
          leads =
              leads-on s cs ps (record s { methods = now.methods }) (change.Method k rec) (place.Method k ∷ []) now.leads less
              (fitting.method-fits s rec (record { classes = o.class_order; methods = o.method_order }) fits)
              (method-swapped (record s { methods = now.methods }) now.leads.orderly k rec (λ l. record { names_known = fits.names_known; class_live = fits.class_live }))
              (touches now.methods);
          done =
              one-more (set now.methods k rec) rec
              (live-same e e (set now.methods k rec) now.methods before (λ j l. ap (option_map e) (get-set_other now.methods k j rec (apart-before j l))) ∙ now.done)
              (get-set_same now.methods k rec less) is;
          rest = λ j l. get-set_other now.methods k j rec (apart-behind j l) ∙ now.rest j (behind-still j l);
          others = λ j l. get-set_other now.methods k j rec (λ same. live-apart k j s.method_order l is_live (sym same)) ∙ now.others j l;
        }

    -- a slot that holds such a method
    told-more : (b : Bool) → same_code nat_eq (method_of r.tree) (method_of tree) ≡ b → (cs : List Change) (ps : List Place) → is_users s method k ≡ true → Retelling s method tree i cs ps
        → Retelling s method tree (i + 1) (cs ++ changes_of s tree k) (ps ++ places_of s tree k)
    told-more true h cs ps hit now =
        retelling-same s method tree (i + 1) cs (cs ++ changes_of s tree k) ps (ps ++ places_of s tree k)
        (ap (λ (q : Option MethodRec). cs ++ option_map_or (λ (m : MethodRec). change.Method k m ∷ []) q []) (rec-is true h) ∙ append-nil cs)
        (ap (λ (q : Option MethodRec). ps ++ option_map_or (λ (m : MethodRec). place.Method k ∷ []) q []) (rec-is true h) ∙ append-nil ps)
        (stays cs ps (sym (after-is true hit ∙ told-is true h)) now)
    told-more false h cs ps hit now =
        retelling-same s method tree (i + 1) (cs ++ change.Method k rec ∷ []) (cs ++ changes_of s tree k) (ps ++ place.Method k ∷ []) (ps ++ places_of s tree k)
        (ap (λ (q : Option MethodRec). cs ++ option_map_or (λ (m : MethodRec). change.Method k m ∷ []) q []) (rec-is false h))
        (ap (λ (q : Option MethodRec). ps ++ option_map_or (λ (m : MethodRec). place.Method k ∷ []) q []) (rec-is false h))
        (changes cs ps (sym (after-is true hit ∙ told-is false h)) now)

    miss-more : (cs : List Change) (ps : List Place) → is_users s method k ≡ false → Retelling s method tree i cs ps → Retelling s method tree (i + 1) cs ps
    miss-more cs ps miss now = stays cs ps (sym (after-is false miss)) now

  -- the record in a slot of the order
  rec-at : (i k : ℕ) → slice_get s.method_order i ≡ Some k → (r : MethodRec) × (slice_get s.methods k ≡ Some r)
  rec-at i k at = there s.methods k (o.method_order.below k (stands-live k s.method_order i at))

  pub retelling-hit : (i k : ℕ) (cs : List Change) (ps : List Place) → slice_get s.method_order i ≡ Some k → is_users s method k ≡ true → Retelling s method tree i cs ps
      → Retelling s method tree (i + 1) (cs ++ changes_of s tree k) (ps ++ places_of s tree k)
  retelling-hit i k cs ps at hit now = let r = rec-at i k at in told-more i k r.0 at r.1 (same_code nat_eq (method_of r.0.tree) (method_of tree)) refl cs ps hit now

  pub retelling-miss : (i k : ℕ) (cs : List Change) (ps : List Place) → slice_get s.method_order i ≡ Some k → is_users s method k ≡ false → Retelling s method tree i cs ps → Retelling s method tree (i + 1) cs ps
  retelling-miss i k cs ps at miss now = let r = rec-at i k at in miss-more i k r.0 at r.1 cs ps miss now

-- all slots have been looked at
module _ (s : Slots) (method : MethodName) (tree : Method) (command : CommandOf ℕ) (told : Retells s method tree command) where
  -- each method with the tree
  abbrev all_after : MethodOf ℕ → ImageOf ℕ
  all_after t = record (number_image s) { methods = map (after_of s method t) (number_image s).methods }

  pub retelling-end : (i : ℕ) (cs : List Change) (ps : List Place) → i ≡ length s.method_order → Retelling s method tree i cs ps → IsPlan s command cs ps
  retelling-end i cs ps end last =
      let now : Retelling s method tree (length s.method_order) cs ps = subst (λ (j : ℕ). Retelling s method tree j cs ps) end last in
      let all : map (entry_of s.classes) (live now.methods s.method_order) ≡ map (after_of s method (method_of tree)) (number_image s).methods =
      ap (λ (ks : List ℕ). map (entry_of s.classes) (live now.methods ks)) (sym (take-length s.method_order)) ∙ now.done
      ∙ ap (λ (ks : List ℕ). map (after_of s method (method_of tree)) (map (entry_of s.classes) (live s.methods ks))) (take-length s.method_order) in
      leads-plan s command cs ps (record s { methods = now.methods }) now.leads refl (
      ap (λ (ms : List (EntryOf ℕ)). record (number_image s) { methods = ms }) all
      ∙ ap all_after told.is_normal
      ∙ sym told.effect)
