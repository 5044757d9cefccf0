-- Contexts of code that stays, by the scopes round it, where temporaries that no closure assigns are steady.
use Rattle.std.proofs.Common.{◌≡◌, ℕ, List, [], ◌∷◌, length, map, Option, Some, None, refl, sym, ap, ◌∙◌, subst}
use Rattle.std.specs.Prelude.{Bool, true, false, not, ◌&&◌, ◌||◌, if◌then◌else◌, slice_get, filter, replicate}
use Rattle.std.specs.List.{list_any}
use Rattle.std.proofs.lemmas.Bool.{false≢true}
use Rattle.rb_base.specs.Names.{text_eq}
use Rattle.rb_base.proofs.NamesLemmas.{text_eq-refl}
use Rattle.scope_model.specs.SpecialNames.{is_pseudo_variable}
use Rattle.scope_model.specs.Scope.{PlacedScope, ScopeOf}
use Rattle.scope_model.specs.Uses.{UseOf, enclosed, is_captured}
use Rattle.tree_model.specs.Tree.{TreeOf, TreesOf, MessagesOf, StatementsOf}
use Rattle.image_model.specs.Means.{MeaningOf}
use Rattle.run_model.specs.Values.{Name}
use Rattle.resolved_model.specs.ResolvedTrees.{of_word, of_local, to_fixed, to_temporary, ResolvedTree, reading, assigning}
use Rattle.resolved_model.specs.ResolvedImages.{ResolvedImage}
use Rattle.resolved_model.specs.Environments.{Declared, opened, kind_in, place_in, declared_in, reference_in, target_by, target_in, tree_in, trees_in, messages_in, statements_in}
use Rattle.unfolded_calls.specs.Unfolding.{Allowed, an_argument, a_temporary, a_steady, a_far, StandIn, shared, Context, scoped, in_closure, Unfolds, same_local, same_reading, same_temporary, same_steady, same_assignment, UnfoldsMessages, UnfoldsLines}
use Rattle.unfolded_calls.specs.SameContexts.{IsOutside}
use Rattle.unfolded_calls.specs.SendsOnly.{SendsOnly, AllSendOnly, MessagesOnly, StatementsSendOnly}
use Rattle.unfolded_places.specs.PartsReplaced.{PartOf, same_name, other_part, no_stores, parts_changed}
use Rattle.unfolded_places.proofs.ShapePairs.{neither}
use Rattle.unfolded_places.proofs.Congruence.{ControlLaw}
use Rattle.unfolded_places.proofs.Unchanged.{tree-stays, trees-stay, messages-stay, lines-stay}
use Rattle.unfolded_places.proofs.NamesThere.{word-read, local-read, outer-read, known-target}
use Rattle.unfolded_places.proofs.PlainThere.{read-outer, target-outer}
use Rattle.unfolded_places.proofs.UsesApart.{uses_of, uses_of_all, uses_of_messages, uses_of_lines, is_set, is_use_outside, IsLess}
use Rattle.unfolded_places.proofs.SendsKept.{NodePair, NodesPair}
use Rattle.unfolded_places.proofs.Moves.{IsHeld, tree-moves, trees-move, messages-move, lines-move}
use Rattle.unfolded_places.proofs.Slots.{IsSlot, slot_argument, slot_shared, slot_steady, slot_far, HasSlots, less-slots, closure-slots, nearer-slots, modes_of, modes-plain, kept_by, scope-slots}

-- a closure among statements assigns a name of theirs
abbrev pub captures : StatementsOf Name → Name → Bool
captures ss n = list_any (is_captured text_eq n) (uses_of_lines ss)

-- whether the innermost declaration of a name is that of a temporary which no closure inside its scope assigns
abbrev pub keeps_in : List (PlacedScope Name) → Name → Bool
keeps_in [] n = false
keeps_in (p ∷ ps) n = kept_by (kind_in (opened p.1.arguments p.1.temporaries []) n) (not (captures p.1.statements n)) (keeps_in ps n)

-- no part is another one
abbrev no_part : List Declared → TreeOf Name → TreeOf Name → Type 0
no_part A t u = ⊥

denied : (b : Bool) → not b ≡ true → b ≡ false
denied true e = absurd (false≢true e)
denied false e = refl

module _ (i : ResolvedImage) (gone : Allowed) (outer : Name → MeaningOf Name) (outside : (n : Name) → IsOutside (outer n)) where
  -- a name that is read
  slot-read : {g : Context} {n : Name} {us : List (UseOf Name)} (s b : Bool) (k : ℕ) (o : Option StandIn) → slice_get g.locals k ≡ o → IsSlot n us s b k o → Unfolds i gone g (reading (of_local k)) (reading (of_local k))
  slot-read _ _ k _ e slot_argument = same_local k (an_argument k) e tt
  slot-read _ _ k _ e slot_shared = same_local k (a_temporary k) e tt
  slot-read _ _ k _ e (slot_steady q) = same_local k (a_steady k) e tt
  slot-read _ _ k _ e (slot_far q) = same_local k (a_far k) e tt

  pub name-stays : (keeps : Name → Bool) (g : Context) (A : List Declared) (us : List (UseOf Name)) (n : Name) → HasSlots keeps g A us → Unfolds i gone g (reading (reference_in A (outer n) n)) (reading (reference_in A (outer n) n))
  name-stays keeps g A us n h = by (is_pseudo_variable n) refl
    where
      by-kind : (o : Option Bool) → kind_in A n ≡ o → is_pseudo_variable n ≡ false → Unfolds i gone g (reading (reference_in A (outer n) n)) (reading (reference_in A (outer n) n))
      by-kind (Some b) k p =
          subst (λ r. Unfolds i gone g (reading r) (reading r)) (sym (local-read A (outer n) n b p k)) (slot-read (keeps n) b (place_in A n) (slice_get g.locals (place_in A n)) refl (h n b p k))
      by-kind None k p = subst (λ r. Unfolds i gone g (reading r) (reading r)) (sym (outer-read A (outer n) n p k)) (read-outer i gone g (outer n) (place_in A n) (place_in A n) n (outside n))

      by : (b : Bool) → is_pseudo_variable n ≡ b → Unfolds i gone g (reading (reference_in A (outer n) n)) (reading (reference_in A (outer n) n))
      by true p = subst (λ r. Unfolds i gone g (reading r) (reading r)) (sym (word-read A (outer n) n p)) (same_reading (of_word n) tt)
      by false p = by-kind (kind_in A n) refl p

  -- a name that is assigned
  slot-set : {g : Context} (n : Name) (us : List (UseOf Name)) (x x' : ResolvedTree) (s : Bool) (k : ℕ) (o : Option StandIn) → slice_get g.locals k ≡ o → IsSlot n (record { name = n; is_assignment = true; in_closure = false } ∷ us) s true k o → Unfolds i gone g x x' → Unfolds i gone g (assigning (to_temporary k) x) (assigning (to_temporary k) x')
  slot-set n us x x' _ k _ e slot_shared r = same_temporary k k e r
  slot-set n us x x' _ k _ e (slot_steady q) r = same_steady k k e r
  slot-set n us x x' _ k _ e (slot_far q) r = absurd (false≢true (sym q ∙ ap (λ b. (b && true) || list_any (is_set n) us) (text_eq-refl n)))

  pub target-stays : (keeps : Name → Bool) (g : Context) (A : List Declared) (n : Name) (us : List (UseOf Name)) (x x' : ResolvedTree) → HasSlots keeps g A (record { name = n; is_assignment = true; in_closure = false } ∷ us) → Unfolds i gone g x x' →
      Unfolds i gone g (assigning (target_in A (outer n) n) x) (assigning (target_in A (outer n) n) x')
  target-stays keeps g A n us x x' h r = by (is_pseudo_variable n) refl
    where
      by-kind : (o : Option Bool) → kind_in A n ≡ o → is_pseudo_variable n ≡ false → Unfolds i gone g (assigning (target_in A (outer n) n) x) (assigning (target_in A (outer n) n) x')
      by-kind (Some true) k p = subst (λ y. Unfolds i gone g (assigning y x) (assigning y x')) (sym (known-target A (outer n) n (Some true) p k)) (slot-set n us x x' (keeps n) (place_in A n) (slice_get g.locals (place_in A n)) refl (h n true p k) r)
      by-kind (Some false) k p = subst (λ y. Unfolds i gone g (assigning y x) (assigning y x')) (sym (known-target A (outer n) n (Some false) p k)) (same_assignment (to_fixed n) tt r)
      by-kind None k p = subst (λ y. Unfolds i gone g (assigning y x) (assigning y x')) (sym (known-target A (outer n) n None p k)) (target-outer i gone g (outer n) (place_in A n) (place_in A n) n (outside n) r)

      by : (b : Bool) → is_pseudo_variable n ≡ b → Unfolds i gone g (assigning (target_in A (outer n) n) x) (assigning (target_in A (outer n) n) x')
      by true p = subst (λ y. Unfolds i gone g (assigning y x) (assigning y x')) (sym (λ j. if p j then to_fixed n else target_by (kind_in A n) (place_in A n) (outer n) n)) (same_assignment (to_fixed n) tt r)
      by false p = by-kind (kind_in A n) refl p

  -- contexts of code in which nothing changes
  record Stays (g : Context) (A B : List Declared) (us : List (UseOf Name)) : Type 0 where
    same : A ≡ B
    keeps : Name → Bool
    slots : HasSlots keeps g A us
    returns : g.returns ≡ true
    supers : g.supers ≡ true

  stays-scoped : (g : Context) (A B : List Declared) (ps ts : List Name) (us : List (UseOf Name)) → Stays g A B (filter (is_use_outside ps ts) us) → Stays (scoped (length ps) (replicate (length ts) shared) g) (opened ps ts A) (opened ps ts B) us
  stays-scoped g A B ps ts us h = record {
    same = ap (opened ps ts) h.same;
    keeps = λ n. kept_by (kind_in (opened ps ts []) n) false (h.keeps n);
    slots =
        subst (λ ms. HasSlots (λ n. kept_by (kind_in (opened ps ts []) n) false (h.keeps n)) (scoped (length ps) ms g) (opened ps ts A) us) (modes-plain ts)
        (scope-slots (λ n. false) h.keeps ps ts g A us (λ n e. absurd (false≢true e)) h.slots);
    returns = h.returns;
    supers = h.supers;
  }

  part-stays : (g : Context) (A B : List Declared) (t u : TreeOf Name) (in_place : Bool) → Stays g A B (uses_of in_place t) → PartOf no_part A B t u → NodePair i gone in_place g (tree_in outer A t) (tree_in outer B u)
  part-stays g A _ _ _ in_place h (same_name n) = record { whole = λ e. name-stays h.keeps g A _ n h.slots; code = neither }
  part-stays g A _ t u in_place h (other_part x) = absurd x

  stays-held : (control : ControlLaw) → IsHeld control i gone (parts_changed no_part gone.is_gone) outer outer Stays
  stays-held control = record {
    less = λ g A B us vs l h. record { same = h.same; keeps = h.keeps; slots = less-slots h.keeps g A us vs l h.slots; returns = h.returns; supers = h.supers };
    scope = stays-scoped;
    closure = λ g A B us h. record { same = h.same; keeps = h.keeps; slots = closure-slots h.keeps g A us h.slots; returns = h.returns; supers = h.supers };
    nearer = λ g A B us h. record { same = h.same; keeps = h.keeps; slots = nearer-slots h.keeps g A us h.slots; returns = h.returns; supers = h.supers };
    part = part-stays;
    sent = λ s e. e;
    assigned = λ g A B n us x x' h e r. subst (λ C. Unfolds i gone g (assigning (target_in A (outer n) n) x) (assigning (target_in C (outer n) n) x')) h.same (target-stays h.keeps g A n us x x' h.slots r);
    stored = λ A B s n e. e.1;
    returned = λ g A B us h r. h.returns;
    above = λ g A B us h r. h.supers;
  }

  -- the same by the scopes round the code
  pub record Stands (place : Option (Name × Bool)) (g : Context) (C : List (PlacedScope Name)) (us : List (UseOf Name)) : Type 0 where
    pub slots : HasSlots (keeps_in C) g (declared_in C) us
    pub standing : g.place ≡ place
    pub returns : g.returns ≡ true
    pub supers : g.supers ≡ true

  module _ (place : Option (Name × Bool)) where
    pub stands-less : {g : Context} {C : List (PlacedScope Name)} {us vs : List (UseOf Name)} → IsLess us vs → Stands place g C us → Stands place g C vs
    stands-less {g} {C} {us} {vs} l h = record { slots = less-slots (keeps_in C) g (declared_in C) us vs l h.slots; standing = h.standing; returns = h.returns; supers = h.supers }

    pub stands-closed : {g : Context} {C : List (PlacedScope Name)} {us : List (UseOf Name)} → Stands place g C (map enclosed us) → Stands place (in_closure g) C us
    stands-closed {g} {C} {us} h = record { slots = closure-slots (keeps_in C) g (declared_in C) us h.slots; standing = h.standing; returns = h.returns; supers = h.supers }

    pub stands-nearer : {g : Context} {C : List (PlacedScope Name)} {us : List (UseOf Name)} → Stands place g C (map enclosed us) → Stands place g C us
    stands-nearer {g} {C} {us} h = record { slots = nearer-slots (keeps_in C) g (declared_in C) us h.slots; standing = h.standing; returns = h.returns; supers = h.supers }

    pub stands-scoped : {g : Context} {C : List (PlacedScope Name)} (d : ℕ) (s : ScopeOf Name) → Stands place g C (filter (is_use_outside s.arguments s.temporaries) (uses_of_lines s.statements)) →
        Stands place (scoped (length s.arguments) (modes_of (λ n. not (captures s.statements n)) s.temporaries) g) ((d, s) ∷ C) (uses_of_lines s.statements)
    stands-scoped {g} {C} d s h = record {
      slots = scope-slots (λ n. not (captures s.statements n)) (keeps_in C) s.arguments s.temporaries g (declared_in C) (uses_of_lines s.statements) (λ n e. denied (captures s.statements n) e) h.slots;
      standing = h.standing;
      returns = h.returns;
      supers = h.supers;
    }

    stays-there : {g : Context} {C : List (PlacedScope Name)} {us : List (UseOf Name)} → Stands place g C us → Stays g (declared_in C) (declared_in C) us
    stays-there {C = C} h = record { same = refl; keeps = keeps_in C; slots = h.slots; returns = h.returns; supers = h.supers }

    -- code that stays
    module _ (control : ControlLaw) (g : Context) (C : List (PlacedScope Name)) where
      abbrev Kept : Name → Type 0
      Kept s = gone.is_gone s ≡ false

      pub tree-stands : (in_place : Bool) (t : TreeOf Name) → Stands place g C (uses_of in_place t) → SendsOnly Kept t → NodePair i gone in_place g (tree_in outer (declared_in C) t) (tree_in outer (declared_in C) t)
      tree-stands in_place t h k = tree-moves control i gone (parts_changed no_part gone.is_gone) outer outer Stays (stays-held control) in_place g (declared_in C) (declared_in C) t t (stays-there h) (tree-stays no_part no_stores gone.is_gone (declared_in C) t k)

      pub trees-stand : (in_place : Bool) (ts : TreesOf Name) → Stands place g C (uses_of_all in_place ts) → AllSendOnly Kept ts → NodesPair i gone in_place g (trees_in outer (declared_in C) ts) (trees_in outer (declared_in C) ts)
      trees-stand in_place ts h k = trees-move control i gone (parts_changed no_part gone.is_gone) outer outer Stays (stays-held control) in_place g (declared_in C) (declared_in C) ts ts (stays-there h) (trees-stay no_part no_stores gone.is_gone (declared_in C) ts k)

      pub messages-stand : (ms : MessagesOf Name) → Stands place g C (uses_of_messages ms) → MessagesOnly Kept ms → UnfoldsMessages i gone g (messages_in outer (declared_in C) ms) (messages_in outer (declared_in C) ms)
      messages-stand ms h k = messages-move control i gone (parts_changed no_part gone.is_gone) outer outer Stays (stays-held control) g (declared_in C) (declared_in C) ms ms (stays-there h) (messages-stay no_part no_stores gone.is_gone (declared_in C) ms k)

      pub lines-stand : (ss : StatementsOf Name) → Stands place g C (uses_of_lines ss) → StatementsSendOnly Kept ss → UnfoldsLines i gone g (statements_in outer (declared_in C) ss) (statements_in outer (declared_in C) ss)
      lines-stand ss h k = lines-move control i gone (parts_changed no_part gone.is_gone) outer outer Stays (stays-held control) g (declared_in C) (declared_in C) ss ss (stays-there h) (lines-stay no_part no_stores gone.is_gone (declared_in C) ss k)
