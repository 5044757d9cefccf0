-- A method with a part at the end of a path unfolds to that with another part there.
use Rattle.std.proofs.Common.{◌≡◌, ℕ, zero, suc, ◌+◌, List, [], ◌∷◌, length, Option, Some, None, refl, sym, ap, ◌∙◌, ◌⊎◌, inl, inr}
use Rattle.std.specs.Prelude.{Bool, true, false, not, ◌&&◌, ◌==◌, option_and_then}
use Rattle.std.proofs.lemmas.Bool.{false≢true}
use Rattle.scope_model.specs.SpecialNames.{control_form}
use Rattle.scope_model.specs.declared.local.ControlForm.{ControlForm}
use Rattle.scope_model.specs.declared.local.ControlForm.TheVariants.{OneBlock, TwoBlocks, Loop, NoControl}
use Rattle.scope_model.specs.Control.{is_plain_block, are_plain_blocks, meets, is_control}
use Rattle.scope_model.specs.Scope.{method_scope, scopes_round}
use Rattle.tree_model.specs.Tree.{TreeOf, var, literal, send, cascade, assign, block, brace, return, TreesOf, no_trees, more_trees, StatementsOf, MethodOf}
use Rattle.tree_model.specs.Path.{count, nth, statement_trees, child, part_at, part_in, with_nth, with_child, statements_replaced}
use Rattle.image_model.specs.ImageNames.{OptionNames}
use Rattle.image_model.specs.Means.{MeaningOf}
use Rattle.run_model.specs.Values.{Name}
use Rattle.run_model.proofs.Finite.{by_cases, and-true_left, and-true_right}
use Rattle.resolved_model.specs.ResolvedImages.{ResolvedImage}
use Rattle.resolved_model.specs.Environments.{Declared, opened, statements_in}
use Rattle.unfolded_calls.specs.Unfolding.{Allowed, Context, scoped, outermost_context, UnfoldsLines, UnfoldsCode}
use Rattle.unfolded_calls.specs.SameContexts.{IsOutside}
use Rattle.unfolded_calls.specs.SendsOnly.{StatementsSendOnly}
use Rattle.unfolded_calls.proofs.Running.{none-some}
use Rattle.unfolded_places.specs.Becoming.{MakesNoControl}
use Rattle.unfolded_places.specs.PartsReplaced.{StaysMessage, StaysMessageAmong}
use Rattle.unfolded_places.proofs.Congruence.{ControlLaw}
use Rattle.unfolded_places.proofs.InlinedOne.{child-again}
use Rattle.unfolded_places.proofs.UsesApart.{uses_of_lines}
use Rattle.unfolded_places.proofs.Moves.{code-counted}
use Rattle.unfolded_places.proofs.Slots.{modes_of, modes-count, modes-staying}
use Rattle.unfolded_places.proofs.StandsThere.{captures, Stands, stands-scoped}
use Rattle.unfolded_places.proofs.MovesAlong.{Even, EvenAmong, Ends, statements-move}

-- blocks among trees stay such, whatever stands in place of what is none
module _ (v u : TreeOf Name) (loose : is_plain_block v ≡ false) where
  count-same : (ts : TreesOf Name) (k : ℕ) → count (with_nth ts k v) ≡ count (with_nth ts k u)
  count-same no_trees k = refl
  count-same (more_trees t ts) zero = refl
  count-same (more_trees t ts) (suc k) = ap (λ n. n + 1) (count-same ts k)

  blocks-grow : (ts : TreesOf Name) (k : ℕ) → are_plain_blocks (with_nth ts k v) ≡ true → are_plain_blocks (with_nth ts k u) ≡ true
  blocks-grow no_trees k e = refl
  blocks-grow (more_trees t ts) zero e = absurd (false≢true (sym loose ∙ and-true_left (is_plain_block v) (are_plain_blocks ts) e))
  blocks-grow (more_trees t ts) (suc k) e = (λ i. and-true_left (is_plain_block t) (are_plain_blocks (with_nth ts k v)) e i && blocks-grow ts k (and-true_right (is_plain_block t) (are_plain_blocks (with_nth ts k v)) e) i)

  receiver-grows : (form : ControlForm) (args : TreesOf Name) → meets form v args ≡ true → meets form u args ≡ true
  receiver-grows OneBlock args e = e
  receiver-grows TwoBlocks args e = e
  receiver-grows Loop args e = absurd (false≢true (sym loose ∙ and-true_left (is_plain_block v) _ e))
  receiver-grows NoControl args e = e

  counted-grow : (n : ℕ) (ts : TreesOf Name) (k : ℕ) → (count (with_nth ts k v) == n && are_plain_blocks (with_nth ts k v)) ≡ true → (count (with_nth ts k u) == n && are_plain_blocks (with_nth ts k u)) ≡ true
  counted-grow n ts k e =
      ap (λ b. (count (with_nth ts k u) == n) && b) (blocks-grow ts k (and-true_right (count (with_nth ts k v) == n) (are_plain_blocks (with_nth ts k v)) e))
      ∙ ap (λ c. (c == n) && true) (sym (count-same ts k)) ∙ ap (λ b. b && true) (and-true_left (count (with_nth ts k v) == n) (are_plain_blocks (with_nth ts k v)) e)

  arguments-grow : (form : ControlForm) (r : TreeOf Name) (ts : TreesOf Name) (k : ℕ) → meets form r (with_nth ts k v) ≡ true → meets form r (with_nth ts k u) ≡ true
  arguments-grow OneBlock r ts k e = counted-grow 1 ts k e
  arguments-grow TwoBlocks r ts k e = counted-grow 2 ts k e
  arguments-grow Loop r ts k e = (λ i. and-true_left (is_plain_block r) _ e i && counted-grow 1 ts k (and-true_right (is_plain_block r) _ e) i)
  arguments-grow NoControl r ts k e = e

  control-grows : (t : TreeOf Name) (k : ℕ) → is_control control_form (with_child t k v) ≡ true → is_control control_form (with_child t k u) ≡ true
  control-grows (var n) k e = e
  control-grows (literal l) k e = e
  control-grows (send r s args) zero e = receiver-grows (control_form s) args e
  control-grows (send r s args) (suc k) e = arguments-grow (control_form s) r args k e
  control-grows (cascade r ms) zero e = e
  control-grows (cascade r ms) (suc k) e = e
  control-grows (assign n t) zero e = e
  control-grows (assign n t) (suc k) e = e
  control-grows (block ps ts ss c) k e = e
  control-grows (brace ts) k e = e
  control-grows (return t) zero e = e
  control-grows (return t) (suc k) e = e

  control-even : (t : TreeOf Name) (k : ℕ) → MakesNoControl (with_child t k v) (with_child t k u) → is_control control_form (with_child t k v) ≡ is_control control_form (with_child t k u)
  control-even t k m = by_cases (is_control control_form (with_child t k v)) (λ e. e ∙ sym (control-grows t k e)) (λ e. e ∙ sym (m e))

  one-step : (o : Option (TreeOf Name)) (w : TreeOf Name) → option_and_then (λ c. part_at c []) o ≡ Some w → o ≡ Some w
  one-step None w e = none-some e
  one-step (Some c) w e = e

  -- the node above the place is a control send with either as it is with the one that stands there
  even-first : (path : List ℕ) (t w : TreeOf Name) → part_at t path ≡ Some w → (w ≡ v) ⊎ (w ≡ u) → StaysMessage t path v u → Even t path v × Even t path u
  even-first [] t w e q m = (tt, tt)
  even-first (k ∷ []) t w e q m = by q
    where
      here : child t k ≡ Some w
      here = one-step (child t k) w e

      same : is_control control_form (with_child t k v) ≡ is_control control_form (with_child t k u)
      same = control-even t k m

      again : is_control control_form (with_child t k w) ≡ is_control control_form t
      again = ap (is_control control_form) (child-again t k w here)

      by : (w ≡ v) ⊎ (w ≡ u) → (is_control control_form (with_child t k v) ≡ is_control control_form t) × (is_control control_form (with_child t k u) ≡ is_control control_form t)
      by (inl z) = let first = ap (λ x. is_control control_form (with_child t k x)) (sym z) ∙ again in (first, sym same ∙ first)
      by (inr z) = let second = ap (λ x. is_control control_form (with_child t k x)) (sym z) ∙ again in (same ∙ second, second)
  even-first (k ∷ j ∷ ks) t w e q m = by (child t k) e m (λ c f n. even-first (j ∷ ks) c w f q n)
    where
      by : (o : Option (TreeOf Name)) → option_and_then (λ c. part_at c (j ∷ ks)) o ≡ Some w → OptionNames (λ c. StaysMessage c (j ∷ ks) v u) o → ((c : TreeOf Name) → part_at c (j ∷ ks) ≡ Some w → StaysMessage c (j ∷ ks) v u → Even c (j ∷ ks) v × Even c (j ∷ ks) u) →
          OptionNames (λ c. Even c (j ∷ ks) v) o × OptionNames (λ c. Even c (j ∷ ks) u) o
      by None e m ih = (tt, tt)
      by (Some c) e m ih = ih c e m

  even-among : (m : MethodOf Name) (path : List ℕ) (w : TreeOf Name) → part_in m.body path ≡ Some w → (w ≡ v) ⊎ (w ≡ u) → StaysMessageAmong m.body.statements path v u → EvenAmong m.body.statements path v × EvenAmong m.body.statements path u
  even-among m [] w e q s = (tt, tt)
  even-among m (k ∷ ks) w e q s = by (nth (statement_trees m.body.statements) k) e s
    where
      by : (o : Option (TreeOf Name)) → option_and_then (λ c. part_at c ks) o ≡ Some w → OptionNames (λ c. StaysMessage c ks v u) o → OptionNames (λ c. Even c ks v) o × OptionNames (λ c. Even c ks u) o
      by None e s = (tt, tt)
      by (Some c) e s = even-first ks c w e q s

module _ (control : ControlLaw) (i : ResolvedImage) (gone : Allowed) (outer : Name → MeaningOf Name) (outside : (n : Name) → IsOutside (outer n)) (place : Option (Name × Bool)) (m : MethodOf Name) where
  -- the context of its statements
  abbrev pub own_modes : List Rattle.unfolded_calls.specs.Unfolding.Mode
  own_modes = modes_of (λ n. not (captures m.body.statements n)) m.body.temporaries

  abbrev pub inside : Context
  inside = scoped (length m.arguments) own_modes (outermost_context place)

  abbrev pub own : List Declared
  own = opened m.arguments m.body.temporaries []

  pub stands-inside : Stands i gone outer outside place inside ((0, method_scope m) ∷ []) (uses_of_lines m.body.statements)
  stands-inside = stands-scoped i gone outer outside place {g = outermost_context place} {C = []} 0 (method_scope m) (record { slots = λ n b p e. none-some e; standing = refl; returns = refl; supers = refl })

  -- its code with other statements
  pub code-moves : (us vs : StatementsOf Name) → UnfoldsLines i gone inside (statements_in outer own us) (statements_in outer own vs) →
      UnfoldsCode i gone (outermost_context place) (record { parameters = length m.arguments; temporaries = length m.body.temporaries; statements = statements_in outer own us }) (record { parameters = length m.arguments; temporaries = length m.body.temporaries; statements = statements_in outer own vs })
  code-moves us vs h =
      code-counted i gone (length m.arguments) (length m.body.temporaries) own_modes (statements_in outer own us) (statements_in outer own vs) (modes-count (λ n. not (captures m.body.statements n)) m.body.temporaries) (modes-staying (λ n. not (captures m.body.statements n)) m.body.temporaries) h

  -- with one part or the other, of which one stands there
  pub lines-with : (v u w : TreeOf Name) (path : List ℕ) → (loose : is_plain_block v ≡ false) → part_in m.body path ≡ Some w → (w ≡ v) ⊎ (w ≡ u) → StatementsSendOnly (λ s. gone.is_gone s ≡ false) m.body.statements → StaysMessageAmong m.body.statements path v u →
      Ends control i gone outer outside place v u loose (scopes_round (method_scope m) path) →
      UnfoldsLines i gone inside (statements_in outer own (statements_replaced m.body.statements path v)) (statements_in outer own (statements_replaced m.body.statements path u))
  lines-with v u w [] loose e q a s ends = none-some e
  lines-with v u w (k ∷ ks) loose e q a s ends =
      let both = even-among v u loose m (k ∷ ks) w e q s in
      statements-move control i gone outer outside place v u loose k ks inside ((0, method_scope m) ∷ []) m.body.statements w e stands-inside a both.0 both.1 ends
