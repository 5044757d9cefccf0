-- The conditions of a message that is replaced by a body hold just where its target is there and nothing is in their way.
use Rattle.std.proofs.Common.{◌≡◌, ℕ, suc, List, [], ◌∷◌, ◌++◌, Option, Some, None, map, refl, ap, sym, ◌∙◌}
use Rattle.std.specs.Prelude.{Bool, true, false, cond, not, ◌&&◌, ◌||◌, nat_lt, filter, length, is_some}
use Rattle.std.specs.List.{list_any, flat_map, enumerate_from}
use Rattle.std.specs.Option.{option_map_or}
use Rattle.tree_model.specs.Tree.{TreeOf}
use Rattle.tree_model.specs.Path.{nth}
use Rattle.tree_model.specs.Nodes.{Placed, nodes}
use Rattle.scope_model.specs.Control.{is_empty}
use Rattle.scope_model.specs.Scope.{local_in}
use Rattle.scope_model.specs.FreeNames.{free_names}
use Rattle.image_model.specs.Image.{ClassOf, EntryOf, ImageOf}
use Rattle.image_model.specs.Lookup.{own_method, lookup}
use Rattle.image_model.specs.Means.{means}
use Rattle.image_model.specs.Uses.{name_used}
use Rattle.rename_model.specs.Conditions.{stands_below}
use Rattle.command_model.specs.Hierarchy.{is_method_of}
use Rattle.command_model.specs.SameMethods.{same_meaning, is_super_node, has_super}
use Rattle.command_model.specs.Asked.{AskedOf}
use Rattle.command_model.specs.Places.{is_return, is_of_block, SendOf}
use Rattle.command_model.specs.Inlined.{passed_for}
use Rattle.command_model.specs.InlineConditions.{is_self_send, is_one_target, is_inlinable, are_actuals_plain, captures_nothing, makes_no_control}
use Rattle.refusal_witnesses.specs.Witnesses.{InMethod, WitnessOf, TwoMeanings, a_node, a_method, where_true, nodes_that}
use Rattle.refusal_witnesses.specs.InlineWitnesses.{above, other_receiver, other_targets, body_fits, not_inlinable, is_actual_plain, other_actual, other_actuals, captured_name, captured_at, captured, new_control}
use Rattle.refusal_witnesses.proofs.Lists.{and-and, empty-map, empty-filter, flat-none, flat-all, two-all, empty-where, empty-unless, empty-if, empty-nodes, of-option, passing-option, failing-option}

module _ {N : Type 0} (a : AskedOf N) (i : ImageOf N) where
  pub shows-other-receiver : (m : EntryOf N) (e : SendOf N) → is_self_send a i e ≡ is_empty (other_receiver a i m e)
  shows-other-receiver m e = sym (empty-unless (is_self_send a i e) (a_node (InMethod m) (e.path ++ 0 ∷ [])))

  pub shows-new-control : (m : EntryOf N) (e : SendOf N) (target : EntryOf N) → makes_no_control a i m e target ≡ is_empty (new_control a i m e target)
  shows-new-control m e target = sym (empty-unless (makes_no_control a i m e target) (a_node (InMethod m) (above e.path)))

  pub shows-other-targets : (c : N) (meta : Bool) (s : N) → is_one_target a i c meta s ≡ (is_some (lookup a.words i (Some c) meta s) && is_empty (other_targets a i c meta s))
  shows-other-targets c meta s =
      let found : Option (EntryOf N) = lookup a.words i (Some c) meta s in
      let own : ClassOf N → Option (EntryOf N) = λ e. own_method a.words.tests.same i.methods e.name meta s in
      let below : ClassOf N → Bool = λ e. stands_below a.words.tests.same i.classes c e in
      let other : ClassOf N → Bool = λ e. not (a.words.tests.same c e.name) in
      let f : ClassOf N → List (WitnessOf N) = λ e. cond (below e && other e) (option_map_or (λ (m : EntryOf N). a_method m ∷ []) (own e) []) [] in
      let has : ClassOf N → Bool = λ e. below e && (other e && is_some (own e)) in
      let first : List (WitnessOf N) = option_map_or (λ (m : EntryOf N). where_true m.kernel (a_method m)) found [] in
      ap (λ b. b && not (list_any has i.classes)) (of-option (λ (m : EntryOf N). not m.kernel) (λ (m : EntryOf N). where_true m.kernel (a_method m)) (λ m. sym (empty-where m.kernel (a_method m))) found)
      ∙ and-and (is_some found) (is_empty first) (not (list_any has i.classes))
      ∙ ap (λ b. is_some found && b)
      (sym (two-all first (flat_map f i.classes) (is_empty first) (not (list_any has i.classes)) refl
      (flat-none f has (λ e. empty-if (below e && other e) (option_map_or (λ (m : EntryOf N). a_method m ∷ []) (own e) []) (is_some (own e)) (there (own e)) ∙ ap not (and-and (below e) (other e) (is_some (own e)))) i.classes)))
    where
      there : (o : Option (EntryOf N)) → is_empty (option_map_or (λ (m : EntryOf N). a_method m ∷ []) o []) ≡ not (is_some o)
      there None = refl
      there (Some m) = refl

  pub shows-not-inlinable : (c : N) (m : EntryOf N) (e : SendOf N) (target : EntryOf N) → is_inlinable a i c m e target ≡ is_empty (not_inlinable a i c m e target)
  shows-not-inlinable c m e target =
      let returns : Placed N → Bool = λ x. is_return x.1 && nat_lt 1 (length x.0) in
      let supers : Placed N → Bool = λ x. is_super_node a.is_super x.1 in
      let bare : Bool = is_empty target.tree.body.temporaries in
      let own : Bool = is_method_of a.words.tests.same c target in
      let fits : Bool = body_fits a i m e target in
      let no_returns : Bool = not (list_any returns (nodes target.tree.body)) in
      let ss : List (WitnessOf N) = nodes_that supers (InMethod target) target.tree.body in
      let head : List (WitnessOf N) = where_true (target.kernel || not bare) (a_method target) in
      let rs : List (WitnessOf N) = nodes_that returns (InMethod target) target.tree.body in
      let last : List (WitnessOf N) = where_true (not fits) (a_node (InMethod m) e.path) in
      let free : Bool = not (has_super a.is_super target) || own in
      sym (two-all head (rs ++ (cond own [] ss ++ last)) (not (target.kernel || not bare)) (no_returns && (free && fits))
      (empty-where (target.kernel || not bare) (a_method target))
      (two-all rs (cond own [] ss ++ last) no_returns (free && fits) (empty-nodes returns (InMethod target) target.tree.body)
      (two-all (cond own [] ss) last free fits (by-own own (has_super a.is_super target) ss (empty-nodes supers (InMethod target) target.tree.body)) (empty-unless fits (a_node (InMethod m) e.path))))
      ∙ flags target.kernel bare (no_returns && (free && fits)))
    where
      flags : (k b t : Bool) → (not (k || not b) && t) ≡ (not k && (b && t))
      flags true b t = refl
      flags false true t = refl
      flags false false t = refl

      by-own : (own t : Bool) (ws : List (WitnessOf N)) → is_empty ws ≡ not t → is_empty (cond own [] ws) ≡ (not t || own)
      by-own true true ws h = refl
      by-own true false ws h = refl
      by-own false true ws h = h
      by-own false false ws h = h

  pub shows-other-actuals : (m : EntryOf N) (e : SendOf N) (target : EntryOf N) → are_actuals_plain a i m e target ≡ is_empty (other_actuals a i m e target)
  shows-other-actuals m e target =
      let plain : ℕ × N → Bool = λ x. option_map_or (is_actual_plain a i m e target x.1) (nth e.arguments x.0) false in
      let at : ℕ × N → WitnessOf N = λ x. a_node (InMethod m) (e.path ++ suc x.0 ∷ []) in
      let own : (x : ℕ × N) → plain x ≡ is_empty (other_actual a i m e target x) = λ x.
      failing-option (is_actual_plain a i m e target x.1) (λ (t : TreeOf N). where_true (not (is_actual_plain a i m e target x.1 t)) (at x)) (a_node (InMethod m) e.path)
      (λ t. sym (empty-unless (is_actual_plain a i m e target x.1 t) (at x))) (nth e.arguments x.0) in
      sym (flat-all (other_actual a i m e target) plain (λ x. sym (own x)) (enumerate_from 0 target.tree.arguments))

  module _ (m : EntryOf N) (e : SendOf N) (target : EntryOf N) where
    -- what is private where it stands
    abbrev of_inner : List ℕ → N → Bool
    of_inner path x = is_of_block (local_in a.words.tests.same a.words.tests.is_pseudo target.tree path x)

    abbrev is_alike : List ℕ → N → Bool
    is_alike path n = of_inner path n || same_meaning a.words.tests.same (means a.words i target path n) (means a.words i m e.path n)

    abbrev free_of : TreeOf N → List N
    free_of t = free_names a.words.tests.same a.words.tests.is_pseudo t

    abbrev is_name_kept : List ℕ → N → Bool
    is_name_kept path n = option_map_or (λ t. not (list_any (of_inner path) (free_of t))) (passed_for a target.tree e.arguments path n) (is_alike path n)

    abbrev differing : List ℕ → N → WitnessOf N
    differing path x = TwoMeanings (InMethod target) path x (means a.words i m e.path x) (means a.words i target path x)

    abbrev alone : List ℕ → N → WitnessOf N
    alone path n = TwoMeanings (InMethod target) path n (means a.words i target path n) (means a.words i m e.path n)

    shows-captured-name : (path : List ℕ) (n : N) → is_name_kept path n ≡ is_empty (captured_name a i m e target path n)
    shows-captured-name path n = by (passed_for a target.tree e.arguments path n)
      where
        by : (o : Option (TreeOf N)) → option_map_or (λ t. not (list_any (of_inner path) (free_of t))) o (is_alike path n) ≡ is_empty (option_map_or (λ t. map (differing path) (filter (of_inner path) (free_of t))) o (where_true (not (is_alike path n)) (alone path n)))
        by None = sym (empty-unless (is_alike path n) (alone path n))
        by (Some t) = sym (empty-map (differing path) (filter (of_inner path) (free_of t)) ∙ empty-filter (of_inner path) (free_of t))

    pub shows-captured : captures_nothing a i m e target ≡ is_empty (captured a i m e target)
    shows-captured =
        sym (flat-all (captured_at a i m e target) (λ x. option_map_or (is_name_kept x.0) (name_used x.1) true)
        (λ x. sym (passing-option (is_name_kept x.0) (captured_name a i m e target x.0) (shows-captured-name x.0) (name_used x.1))) (nodes target.tree.body))
