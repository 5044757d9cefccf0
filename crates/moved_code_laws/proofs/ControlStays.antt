-- A node stays a control send where something else stands in place of a part that is none of its blocks.
use Rattle.std.proofs.Common.{◌≡◌, ℕ, zero, suc, List, [], ◌∷◌, Option, Some, None, refl, sym, ap, ◌∙◌}
use Rattle.std.specs.Prelude.{Bool, true, false, not, ◌&&◌, ◌==◌, option_map, option_and_then, unwrap_or}
use Rattle.std.specs.Option.{option_map_or}
use Rattle.std.proofs.lemmas.Bool.{false≢true}
use Rattle.tree_model.specs.Tree.{TreeOf, var, literal, send, cascade, assign, block, brace, return, TreesOf, no_trees, more_trees, MethodOf}
use Rattle.tree_model.specs.Path.{count, nth, statement_trees, child, part_at, part_in, with_child}
use Rattle.scope_model.specs.declared.local.ControlForm.{ControlForm}
use Rattle.scope_model.specs.declared.local.ControlForm.TheVariants.{OneBlock, TwoBlocks, Loop, NoControl}
use Rattle.scope_model.specs.Control.{is_plain_block, are_plain_blocks, meets, is_loop, is_control, steps_in_place, is_block, is_closure_at}
use Rattle.scope_model.specs.SpecialNames.{control_form}
use Rattle.image_model.specs.ImageNames.{OptionNames}
use Rattle.run_model.specs.Values.{Name}
use Rattle.run_model.proofs.Finite.{by_cases, and-true_left, and-true_right}
use Rattle.unfolded_calls.proofs.Running.{none-some, some-same}
use Rattle.unfolded_places.specs.PartsReplaced.{StaysMessage, StaysMessageAmong}
use Rattle.unfolded_places.proofs.InlinedOne.{child-again}
use Rattle.command_model.specs.Places.{is_closure_in, is_in_place}

-- a block of a list of blocks
block-of : (ts : TreesOf Name) (k : ℕ) (t : TreeOf Name) → nth ts k ≡ Some t → are_plain_blocks ts ≡ true → is_plain_block t ≡ true
block-of no_trees k t e h = none-some e
block-of (more_trees u ts) zero t e h = ap is_plain_block (sym (some-same e)) ∙ and-true_left (is_plain_block u) (are_plain_blocks ts) h
block-of (more_trees u ts) (suc k) t e h = block-of ts k t e (and-true_right (is_plain_block u) (are_plain_blocks ts) h)

-- a block without parameters is a block
plain-block : (t : TreeOf Name) → is_plain_block t ≡ true → is_block t ≡ true
plain-block (var n) e = absurd (false≢true e)
plain-block (literal l) e = absurd (false≢true e)
plain-block (send r s args) e = absurd (false≢true e)
plain-block (cascade r ms) e = absurd (false≢true e)
plain-block (assign n t) e = absurd (false≢true e)
plain-block (block ps ts ss c) e = refl
plain-block (brace ts) e = absurd (false≢true e)
plain-block (return t) e = absurd (false≢true e)

-- what a form demands of the arguments
blocks-met : (form : ControlForm) (r : TreeOf Name) (args : TreesOf Name) → meets form r args ≡ true → are_plain_blocks args ≡ true
blocks-met OneBlock r args e = and-true_right (count args == 1) (are_plain_blocks args) e
blocks-met TwoBlocks r args e = and-true_right (count args == 2) (are_plain_blocks args) e
blocks-met Loop r args e = and-true_right (count args == 1) (are_plain_blocks args) (and-true_right (is_plain_block r) _ e)
blocks-met NoControl r args e = absurd (false≢true e)

-- the receiver counts in loops alone
other-receiver : (form : ControlForm) (r u : TreeOf Name) (args : TreesOf Name) → is_loop form ≡ false → meets form r args ≡ true → meets form u args ≡ true
other-receiver OneBlock r u args l e = e
other-receiver TwoBlocks r u args l e = e
other-receiver Loop r u args l e = absurd (false≢true (sym l))
other-receiver NoControl r u args l e = e

receiver-met : (form : ControlForm) (r : TreeOf Name) (args : TreesOf Name) → is_loop form ≡ true → meets form r args ≡ true → is_plain_block r ≡ true
receiver-met OneBlock r args l e = absurd (false≢true l)
receiver-met TwoBlocks r args l e = absurd (false≢true l)
receiver-met Loop r args l e = and-true_left (is_plain_block r) _ e
receiver-met NoControl r args l e = absurd (false≢true l)

module _ (v : TreeOf Name) where
  -- a step to what is none of its blocks
  abbrev Apart : TreeOf Name → ℕ → TreeOf Name → Type 0
  Apart above k t = is_block t ≡ true → steps_in_place control_form above k ≡ true → ⊥

  control-stays : (above : TreeOf Name) (k : ℕ) (t : TreeOf Name) → child above k ≡ Some t → Apart above k t → is_control control_form above ≡ true → is_control control_form (with_child above k v) ≡ true
  control-stays (var n) k t e a h = absurd (false≢true h)
  control-stays (literal l) k t e a h = absurd (false≢true h)
  control-stays (send r s args) zero t e a h =
      by_cases (is_loop (control_form s))
      (λ l. absurd (a (plain-block t (ap is_plain_block (sym (some-same e)) ∙ receiver-met (control_form s) r args l h)) (λ z. l z && h z)))
      (λ l. other-receiver (control_form s) r v args l h)
  control-stays (send r s args) (suc k) t e a h = absurd (a (plain-block t (block-of args k t e (blocks-met (control_form s) r args h))) h)
  control-stays (cascade r ms) k t e a h = absurd (false≢true h)
  control-stays (assign n u) k t e a h = absurd (false≢true h)
  control-stays (block ps ts ss c) k t e a h = absurd (false≢true h)
  control-stays (brace ts) k t e a h = absurd (false≢true h)
  control-stays (return u) k t e a h = absurd (false≢true h)

  -- a part that is no block of a control send
  abbrev NoBlockOf : Bool → TreeOf Name → List ℕ → TreeOf Name → Type 0
  NoBlockOf in_place t path w = (is_block w && not (is_closure_at control_form in_place t path)) ≡ false

  closed : (b c : Bool) → (b && not (b && not c)) ≡ false → b ≡ true → c ≡ true → ⊥
  closed b true h p q = false≢true (sym h ∙ (λ k. p k && not (p k && false)))
  closed b false h p q = false≢true q

  pub stays-control : (path : List ℕ) (t w : TreeOf Name) (in_place : Bool) → part_at t path ≡ Some w → NoBlockOf in_place t path w → StaysMessage t path v w
  stays-control [] t w in_place e h = tt
  stays-control (k ∷ []) t w in_place e h = λ q. by_cases (is_control control_form (with_child t k w)) (λ c. absurd (false≢true (sym q ∙ control-stays t k w here apart (ap (is_control control_form) (sym (child-again t k w here)) ∙ c)))) (λ c. c)
    where
      one : (o : Option (TreeOf Name)) → option_and_then (λ c. part_at c []) o ≡ Some w → o ≡ Some w
      one None e = none-some e
      one (Some c) e = e

      here : child t k ≡ Some w
      here = one (child t k) e

      apart : is_block w ≡ true → steps_in_place control_form t k ≡ true → ⊥
      apart b s = closed (is_block w) (steps_in_place control_form t k) (ap (λ o. is_block w && not (unwrap_or (option_map (λ c. is_closure_at control_form (steps_in_place control_form t k) c []) o) false)) (sym here) ∙ h) b s
  stays-control (k ∷ j ∷ ks) t w in_place e h = by (child t k) e h (λ c f g. stays-control (j ∷ ks) c w (steps_in_place control_form t k) f g)
    where
      by : (o : Option (TreeOf Name)) → option_and_then (λ c. part_at c (j ∷ ks)) o ≡ Some w → (is_block w && not (unwrap_or (option_map (λ c. is_closure_at control_form (steps_in_place control_form t k) c (j ∷ ks)) o) false)) ≡ false →
          ((c : TreeOf Name) → part_at c (j ∷ ks) ≡ Some w → NoBlockOf (steps_in_place control_form t k) c (j ∷ ks) w → StaysMessage c (j ∷ ks) v w) → OptionNames (λ c. StaysMessage c (j ∷ ks) v w) o
      by None e h ih = tt
      by (Some c) e h ih = ih c e h

  -- the same in a method
  pub control-among : (m : MethodOf Name) (path : List ℕ) (w : TreeOf Name) → part_in m.body path ≡ Some w → is_in_place control_form m.body path ≡ false → StaysMessageAmong m.body.statements path v w
  control-among m [] w e h = tt
  control-among m (k ∷ ks) w e h = by (nth (statement_trees m.body.statements) k) e (ap (λ o. option_map_or is_block o false && not (is_closure_in control_form m.body (k ∷ ks))) (sym e) ∙ h)
    where
      by : (o : Option (TreeOf Name)) → option_and_then (λ c. part_at c ks) o ≡ Some w → (is_block w && not (option_map_or (λ t. is_closure_at control_form false t ks) o false)) ≡ false → OptionNames (λ c. StaysMessage c ks v w) o
      by None e h = tt
      by (Some c) e h = stays-control ks c w false e h
