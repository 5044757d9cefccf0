-- A node in which one read of a name stands, in no block: with an expression in its place.
use Rattle.std.proofs.Common.{◌≡◌, ℕ, zero, suc, ◌-◌, List, [], ◌∷◌, Option, Some, option_map, option_and_then, refl, sym, ap, ◌∙◌, subst}
use Rattle.std.specs.Prelude.{Bool, true, false, not, ◌&&◌, ◌==◌, if◌then◌else◌, nat_lt, unwrap_or}
use Rattle.std.specs.Option.{option_map_or}
use Rattle.rb_base.specs.Names.{text_eq}
use Rattle.tree_model.specs.Tree.{TreeOf, var, literal, send, cascade, assign, block, brace, return, TreesOf, no_trees, more_trees, no_messages, more_messages}
use Rattle.tree_model.specs.Path.{count, child, children, part_at, with_nth, with_argument, with_child, replaced}
use Rattle.tree_model.proofs.Children.{count-with_nth, children-with_child, child-with_child}
use Rattle.scope_model.specs.declared.local.ControlForm.{ControlForm}
use Rattle.scope_model.specs.declared.local.ControlForm.TheVariants.{OneBlock, TwoBlocks, Loop, NoControl}
use Rattle.scope_model.specs.Control.{is_plain_block, are_plain_blocks, meets, is_loop, is_control, steps_in_place, is_block, is_closure_at}
use Rattle.scope_model.specs.SpecialNames.{control_form}
use Rattle.image_model.specs.Image.{EntryOf, ImageOf}
use Rattle.image_model.specs.ImageNames.{OptionNames}
use Rattle.run_model.specs.Values.{Name}
use Rattle.run_model.proofs.Finite.{and-true_left, and-true_right}
use Rattle.unfolded_calls.proofs.Running.{some-same}
use Rattle.unfolded_places.specs.PartsReplaced.{StaysMessage}
use Rattle.unfolded_places.proofs.InlinedOne.{child-again}
use Rattle.command_model.specs.Asked.{text_asked}
use Rattle.command_model.specs.Plain.{is_plain}
use Rattle.command_model.specs.Walk.{Making, onward, rebuilt}
use Rattle.code_command_laws.specs.Before.{is_before_sends, are_first_plain, is_plain_before}
use Rattle.code_command_laws.specs.Round.{IsOpen, open_here, open_step}
use Rattle.code_command_laws.proofs.RebuiltBlock.{ChangesNames, StayBut, node-one}
use Rattle.let_laws.proofs.Valued.{name_valued, tree_valued, tree-rebuilt}
use Rattle.let_laws.proofs.FirstEvaluated.{IsNotInPlace, not-all, no-meeting}

module _ (x : Name) (v : TreeOf Name) where
  -- the walk that puts the value in place of each read
  abbrev walk : Making Name
  walk path (var n) = name_valued x v n
  walk path t = t

  walk-names : ChangesNames walk
  walk-names path (var n) h = absurd h
  walk-names path (literal l) h = refl
  walk-names path (send r s args) h = refl
  walk-names path (cascade r ms) h = refl
  walk-names path (assign n t) h = refl
  walk-names path (block ps ts ss c) h = refl
  walk-names path (brace ts) h = refl
  walk-names path (return t) h = refl

  walked : (t : TreeOf Name) → rebuilt walk t ≡ tree_valued x v t
  walked t = tree-rebuilt x v walk walk-names t (λ path u e n s. refl)

  walked-below : (k : ℕ) (t : TreeOf Name) → rebuilt (onward k walk) t ≡ tree_valued x v t
  walked-below k t = tree-rebuilt x v (onward k walk) (λ path u. walk-names (k ∷ path) u) t (λ path u e n s. refl)

  -- where one read stands
  pub read-replaced : (n : Name) → text_eq x n ≡ true → {t : TreeOf Name} {ks : List ℕ} → IsOpen (var n) t ks → ((q : List ℕ) (y : Name) → part_at t q ≡ Some (var y) → (q ≡ ks → ⊥) → text_eq x y ≡ false) → tree_valued x v t ≡ replaced t ks v
  read-replaced n told open_here h = ap (λ c. if c then v else var n) told
  read-replaced n told (open_step {t = t} {c = c} {k = k} {ks = ks} o e p) h =
      sym (walked t) ∙ node-one walk walk-names t k c (tree_valued x v c) e (walked-below k c) others
      ∙ ap (with_child t k) (read-replaced n told p (λ q y w a. h (k ∷ q) y (ap (option_and_then (λ z. part_at z q)) e ∙ w) (λ z. a (tails q z))))
      ∙ sym (ap (λ (z : Option (TreeOf Name)). unwrap_or (option_map (λ y. with_child t k (replaced y ks v)) z) t) e)
    where
      heads : (q : List ℕ) (j : ℕ) → j ∷ q ≡ k ∷ ks → j ≡ k
      heads q j z = cc

      tails : (q : List ℕ) → k ∷ q ≡ k ∷ ks → q ≡ ks
      tails q z = cc

      others : StayBut walk 0 (children t) k
      others j l q y s a w = ap (λ b. if b then v else var y) (h (j ∷ q) y w (λ z. a (heads q j z)))

-- another node at the end of a path that enters no block
module _ (v : TreeOf Name) where
  block-with : (t : TreeOf Name) (k : ℕ) (u : TreeOf Name) → is_block (with_child t k u) ≡ is_block t
  block-with (var n) k u = refl
  block-with (literal l) k u = refl
  block-with (send r s args) zero u = refl
  block-with (send r s args) (suc k) u = refl
  block-with (cascade r ms) zero u = refl
  block-with (cascade r ms) (suc k) u = refl
  block-with (assign n t) zero u = refl
  block-with (assign n t) (suc k) u = refl
  block-with (block ps ts ss c) k u = refl
  block-with (brace ts) k u = refl
  block-with (return t) zero u = refl
  block-with (return t) (suc k) u = refl

  step-replaced : (t : TreeOf Name) (k : ℕ) (ks : List ℕ) (c : TreeOf Name) → child t k ≡ Some c → replaced t (k ∷ ks) v ≡ with_child t k (replaced c ks v)
  step-replaced t k ks c e = ap (λ (z : Option (TreeOf Name)). unwrap_or (option_map (λ y. with_child t k (replaced y ks v)) z) t) e

  pub reopened : {part t : TreeOf Name} {ks : List ℕ} → IsOpen part t ks → IsOpen v (replaced t ks v) ks
  reopened open_here = open_here
  reopened (open_step {t = t} {c = c} {k = k} {ks = ks} o e p) =
      subst (λ z. IsOpen v z (k ∷ ks)) (sym (step-replaced t k ks c e)) (open_step (block-with t k (replaced c ks v) ∙ o) (child-with_child t k c (replaced c ks v) e) (reopened p))

  -- what stands before it stays
  same-sends : (t : TreeOf Name) (k : ℕ) (u : TreeOf Name) → is_before_sends (with_child t k u) k ≡ is_before_sends t k
  same-sends (var n) k u = refl
  same-sends (literal l) k u = refl
  same-sends (send r s args) zero u = refl
  same-sends (send r s args) (suc k) u = refl
  same-sends (cascade r no_messages) zero u = refl
  same-sends (cascade r (more_messages s args ms)) zero u = refl
  same-sends (cascade r no_messages) (suc k) u = refl
  same-sends (cascade r (more_messages s args ms)) (suc k) u = by (nat_lt k (count args))
    where
      by : (b : Bool) → is_before_sends (cascade r (if b then more_messages s (with_nth args k u) ms else more_messages s args (with_argument ms (k - count args) u))) (suc k) ≡ nat_lt (suc k) (suc (count args))
      by true = ap (λ n. nat_lt (suc k) (suc n)) (count-with_nth args k u)
      by false = refl
  same-sends (assign n t) zero u = refl
  same-sends (assign n t) (suc k) u = refl
  same-sends (block ps ts ss c) k u = refl
  same-sends (brace ts) k u = refl
  same-sends (return t) zero u = refl
  same-sends (return t) (suc k) u = refl

  module _ (i : ImageOf Name) (m : EntryOf Name) (path : List ℕ) where
    same-first : (ts : TreesOf Name) (k : ℕ) (u : TreeOf Name) → are_first_plain text_asked i m path k (with_nth ts k u) ≡ are_first_plain text_asked i m path k ts
    same-first no_trees zero u = refl
    same-first no_trees (suc k) u = refl
    same-first (more_trees t ts) zero u = refl
    same-first (more_trees t ts) (suc k) u = ap (λ b. is_plain text_asked i m path t && b) (same-first ts k u)

    pub before-replaced : {part t : TreeOf Name} {ks : List ℕ} → IsOpen part t ks → is_plain_before text_asked i m path t ks ≡ true → is_plain_before text_asked i m path (replaced t ks v) ks ≡ true
    before-replaced open_here h = refl
    before-replaced (open_step {t = t} {c = c} {k = k} {ks = ks} o e p) h =
        ap (λ z. is_plain_before text_asked i m path z (k ∷ ks)) (step-replaced t k ks c e)
        ∙ (λ j. same-sends t k (replaced c ks v) j
        && ((ap (are_first_plain text_asked i m path k) (children-with_child t k (replaced c ks v)) ∙ same-first (children t) k (replaced c ks v)) j
        && (ap (λ (z : Option (TreeOf Name)). option_map_or (λ y. is_plain_before text_asked i m path y ks) z false) (child-with_child t k c (replaced c ks v) e)
        ∙ before-replaced p (ap (λ (z : Option (TreeOf Name)). option_map_or (λ y. is_plain_before text_asked i m path y ks) z false) (sym e) ∙ and-true_right (are_first_plain text_asked i m path k (children t)) _ (and-true_right (is_before_sends t k) _ h))) j))
        ∙ (λ j. and-true_left (is_before_sends t k) _ h j && (and-true_left (are_first_plain text_asked i m path k (children t)) _ (and-true_right (is_before_sends t k) _ h) j && true))

  -- a node that becomes no control send runs no block that comes
  loop-met : (form : ControlForm) (r : TreeOf Name) (args : TreesOf Name) → is_plain_block r ≡ false → (meets form r args ≡ false → meets form v args ≡ false) → (is_loop form && meets form v args) ≡ false
  loop-met OneBlock r args u h = refl
  loop-met TwoBlocks r args u h = refl
  loop-met Loop r args u h = h (ap (λ b. b && ((count args == 1) && are_plain_blocks args)) u)
  loop-met NoControl r args u h = refl

  not-stepped : (t : TreeOf Name) (k : ℕ) (c : TreeOf Name) → child t k ≡ Some c → is_plain_block c ≡ false → (is_control control_form t ≡ false → is_control control_form (with_child t k v) ≡ false) → steps_in_place control_form (with_child t k v) k ≡ false
  not-stepped (var n) k c e u h = refl
  not-stepped (literal l) k c e u h = refl
  not-stepped (send r s args) zero c e u h = loop-met (control_form s) r args (ap is_plain_block (some-same e) ∙ u) h
  not-stepped (send r s args) (suc k) c e u h = h (no-meeting (control_form s) r args (not-all args k c e u))
  not-stepped (cascade r ms) zero c e u h = refl
  not-stepped (cascade r ms) (suc k) c e u h = refl
  not-stepped (assign n t) zero c e u h = refl
  not-stepped (assign n t) (suc k) c e u h = refl
  not-stepped (block ps ts ss d) k c e u h = refl
  not-stepped (brace ts) k c e u h = refl
  not-stepped (return t) zero c e u h = refl
  not-stepped (return t) (suc k) c e u h = refl

  closed : (b c : Bool) → (b ≡ true → c ≡ false) → (b && not (b && not c)) ≡ false
  closed true c h = ap (λ z. not (not z)) (h refl)
  closed false c h = refl

  pub not-placed : (n : Name) {t : TreeOf Name} {ks : List ℕ} → IsOpen (var n) t ks → (b : Bool) → (ks ≡ [] → is_block v ≡ true → b ≡ false) → StaysMessage t ks (var n) v → IsNotInPlace b (replaced t ks v) ks v
  not-placed n open_here b first h = closed (is_block v) b (first refl)
  not-placed n (open_step {t = t} {c = c} {k = k} {ks = ks} o e p) b first h =
      subst (λ z. IsNotInPlace b z (k ∷ ks) v) (sym (step-replaced t k ks c e))
      (ap (λ (z : Option (TreeOf Name)). is_block v && not (unwrap_or (option_map (λ y. is_closure_at control_form (steps_in_place control_form (with_child t k (replaced c ks v)) k) y ks) z) false)) (child-with_child t k c (replaced c ks v) e)
      ∙ not-placed n p (steps_in_place control_form (with_child t k (replaced c ks v)) k) (here ks p h) (below ks h))
    where
      name-open : {u : TreeOf Name} → IsOpen (var n) u [] → u ≡ var n
      name-open open_here = refl

      here : (ks : List ℕ) → IsOpen (var n) c ks → StaysMessage t (k ∷ ks) (var n) v → ks ≡ [] → is_block v ≡ true → steps_in_place control_form (with_child t k (replaced c ks v)) k ≡ false
      here [] p h s w = not-stepped t k c e (ap is_plain_block (name-open p)) (λ q. h (ap (is_control control_form) (child-again t k (var n) (e ∙ ap Some (name-open p))) ∙ q))
      here (j ∷ js) p h s w = absurd (cc)

      below : (ks : List ℕ) → StaysMessage t (k ∷ ks) (var n) v → StaysMessage c ks (var n) v
      below [] h = tt
      below (j ∷ js) h = subst (λ o. OptionNames (λ y. StaysMessage y (j ∷ js) (var n) v) o) e h
