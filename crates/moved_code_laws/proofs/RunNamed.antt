-- The names that statements of a method read from outside, and the method that is made of them.
use Rattle.std.proofs.Common.{◌≡◌, ◌<◌, ◌≤◌, ◌+◌, ℕ, zero, suc, List, [], ◌∷◌, ◌++◌, length, Option, Some, None, refl, sym, ap, ◌∙◌, subst, append_assoc, arith}
use Rattle.std.specs.Prelude.{Bool, true, false, not, ◌&&◌, ◌||◌, cond, if◌then◌else◌, nat_le, nat_lt, filter, slice_get, option_map, option_and_then, unwrap_or}
use Rattle.std.specs.List.{list_any}
use Rattle.std.specs.Option.{option_map_or}
use Rattle.std.proofs.lemmas.Bool.{false≢true, le-leb, lt-ltb}
use Rattle.std.proofs.lemmas.List.{length-append}
use Rattle.std.proofs.lemmas.List.Folds.{list_any-append}
use Rattle.rb_base.specs.Names.{text_eq}
use Rattle.tree_model.specs.Tree.{TreeOf, assign, block, StatementsOf, no_statements, more_statements, MethodOf}
use Rattle.tree_model.specs.Path.{nth, part_at, part_in, statement_trees}
use Rattle.tree_model.specs.Nodes.{Placed, nodes}
use Rattle.tree_model.proofs.NodesLemmas.{Contains-part_in}
use Rattle.scope_model.specs.SpecialNames.{is_pseudo_variable, control_form}
use Rattle.scope_model.specs.Control.{is_closure_at}
use Rattle.scope_model.specs.declared.local.Local.TheVariants.{Argument, Temporary}
use Rattle.scope_model.specs.Scope.{ScopeOf, PlacedScope, method_scope, scopes_round, local_by, local_in, is_among, declares}
use Rattle.scope_model.specs.FreeNames.{take_statements, run_of, free_occurrences, free_in_statements, free_names}
use Rattle.image_model.specs.Image.{EntryOf, ImageOf}
use Rattle.image_model.specs.Means.{MeaningOf, means, means_outside}
use Rattle.image_model.specs.Words.{text_words}
use Rattle.run_model.specs.Values.{Name}
use Rattle.run_model.proofs.Finite.{by_cases}
use Rattle.resolved_model.specs.Environments.{declared_in}
use Rattle.resolved_model.proofs.ResolvingLemmas.{AreInScopes}
use Rattle.mapped_model.proofs.NodesBelow.{Among}
use Rattle.rename_laws.specs.BehindKernel.{AssignsNothingFixed}
use Rattle.rename_laws.proofs.Unnamed.{denied}
use Rattle.unfolded_calls.specs.SendsOnly.{StatementsSendOnly}
use Rattle.unfolded_calls.proofs.Running.{none-some}
use Rattle.unfolded_places.specs.Inlining.{Filling}
use Rattle.unfolded_places.specs.Fillings.{StatementsMayFill}
use Rattle.unfolded_places.proofs.SelfFilled.{themselves}
use Rattle.unfolded_places.proofs.UsesApart.{uses_of, is_read_far}
use Rattle.unfolded_places.proofs.StandsThere.{keeps_in}
use Rattle.command_model.specs.Asked.{text_asked}
use Rattle.command_model.specs.Parts.{Run, Expression, is_within}
use Rattle.command_model.specs.Places.{is_return, is_local, is_closure_in}
use Rattle.command_model.specs.PartConditions.{has_no_return, assigns_no_outer, are_temporaries_steady}
use Rattle.code_command_laws.proofs.RunConditions.{filtered-none}
use Rattle.moved_code_laws.proofs.Saying.{alone, said_by, within, said-within}
use Rattle.moved_code_laws.proofs.ScopesOn.{on_from}
use Rattle.moved_code_laws.proofs.PartStands.{IsInner, Inner, statements-stand}
use Rattle.moved_code_laws.proofs.BodyThere.{not-fixed}
use Rattle.moved_code_laws.proofs.SequencesThere.{IsSequence, own_sequence, of_block, round_of, round-at, in-sequence, nth-run, part-below}
use Rattle.moved_code_laws.proofs.PartSteady.{within-part, closure-below, low, own-so, open-so, near-so}
use Rattle.moved_code_laws.proofs.SteadyThere.{scopes-there, keeps-open}

-- a block that declares nothing has the free names of its statements
undeclared : (n : Name) → not (declares text_eq is_pseudo_variable [] [] n) ≡ true
undeclared n = by (is_pseudo_variable n)
  where
    by : (b : Bool) → not (not b && false) ≡ true
    by true = refl
    by false = refl

pub undeclaring : (xs : List Name) → filter (λ n. not (declares text_eq is_pseudo_variable [] [] n)) xs ≡ xs
undeclaring [] = refl
undeclaring (x ∷ xs) = ap (λ b. cond b (x ∷ filter (λ n. not (declares text_eq is_pseudo_variable [] [] n)) xs) (filter (λ n. not (declares text_eq is_pseudo_variable [] [] n)) xs)) (undeclared x) ∙ ap (λ ys. x ∷ ys) (undeclaring xs)

-- what is sent by statements is sent by all of them
kept-first : (P : Name → Type 0) (n : ℕ) (ss : StatementsOf Name) → StatementsSendOnly P ss → StatementsSendOnly P (take_statements n ss)
kept-first P zero ss k = tt
kept-first P (suc n) no_statements k = tt
kept-first P (suc n) (more_statements c t ss) k = (k.0, kept-first P n ss k.1)

pub kept-run : (P : Name → Type 0) (first n : ℕ) (ss : StatementsOf Name) → StatementsSendOnly P ss → StatementsSendOnly P (run_of ss first n)
kept-run P zero n ss k = kept-first P n ss k
kept-run P (suc first) n no_statements k = kept-first P n no_statements tt
kept-run P (suc first) n (more_statements c t ss) k = kept-run P first n ss k.1

-- a path leads into a run where it goes on to one of its statements
step-there : (path : List ℕ) (k : ℕ) (p : List ℕ) → slice_get (path ++ k ∷ p) (length path) ≡ Some k
step-there [] k p = refl
step-there (j ∷ js) k p = step-there js k p

within-run : (path : List ℕ) (first n k : ℕ) (p : List ℕ) → first ≤ k → k < first + n → is_within (Run path first n) (path ++ k ∷ p) ≡ true
within-run path first n k p low high =
    ap (λ o. is_within (Expression path) (path ++ k ∷ p) && option_map_or (λ j. nat_le first j && nat_lt j (first + n)) o false) (step-there path k p)
    ∙ (λ z. within-part path (k ∷ p) z && (le-leb first k low z && lt-ltb k (first + n) high z))

-- what is below a statement stands in closures as below the statement alone
pub statement-closed : (m : MethodOf Name) {path : List ℕ} {ss : StatementsOf Name} → IsSequence m path ss → (k : ℕ) (t : TreeOf Name) → nth (statement_trees ss) k ≡ Some t → (r : List ℕ) → is_closure_in control_form m.body ((path ++ k ∷ []) ++ r) ≡ is_closure_at control_form false t r
statement-closed m own_sequence k t e r = ap (λ o. option_map_or (λ u. is_closure_at control_form false u r) o false) e
statement-closed m (of_block j js ps ts ss d at) k t e r = ap (is_closure_in control_form m.body) (append_assoc (j ∷ js) (k ∷ []) r) ∙ by (nth (statement_trees m.body.statements) j) at
  where
    below-it : (b : Bool) → is_closure_at control_form b (block ps ts ss d) (k ∷ r) ≡ is_closure_at control_form false t r
    below-it b = ap (λ o. unwrap_or (option_map (λ c. is_closure_at control_form false c r) o) false) e

    by : (o : Option (TreeOf Name)) → option_and_then (λ c. part_at c js) o ≡ Some (block ps ts ss d) → option_map_or (λ u. is_closure_at control_form false u (js ++ k ∷ r)) o false ≡ is_closure_at control_form false t r
    by None q = none-some q
    by (Some c) q = let below = closure-below js false c (block ps ts ss d) q in below.1 (k ∷ r) ∙ below-it below.0

-- few steps lead to a scope round a sequence that declares a temporary
first-low : (d : ℕ) (s : ScopeOf Name) (rest : List (PlacedScope Name)) (x : Name) (k : ℕ) → (local_by text_eq rest x ≡ Temporary k → k < suc d) → local_by text_eq ((d, s) ∷ rest) x ≡ Temporary k → k < suc d
first-low d s rest x k ih e = by (is_among text_eq s.arguments x) (is_among text_eq s.temporaries x) e
  where
    depth : Temporary d ≡ Temporary k → d ≡ k
    depth q = cc

    by : (b c : Bool) → (if b then Argument d else if c then Temporary d else local_by text_eq rest x) ≡ Temporary k → k < suc d
    by true c e = absurd (cc)
    by false true e = let l = depth e in omega (arith, l)
    by false false e = ih e

scope-low : (m : MethodOf Name) {path : List ℕ} {ss : StatementsOf Name} → (q : IsSequence m path ss) → (x : Name) (k : ℕ) → local_by text_eq (round_of m q) x ≡ Temporary k → k < suc (length path)
scope-low m own_sequence x k e = first-low 0 (method_scope m) [] x k (λ h. absurd (cc)) e
scope-low m (of_block j js ps ts ss d at) x k e =
    first-low (length (j ∷ js)) (record { arguments = ps; temporaries = ts; statements = ss }) (scopes_round (method_scope m) (j ∷ js)) x k (λ h. let l = low m (j ∷ js) (block ps ts ss d) at x k h in omega (arith, l)) e

-- a name that is free in statements is so in one of them
record IsFreeIn (ss : StatementsOf Name) (x : Name) : Type 0 where
  number : ℕ
  tree : TreeOf Name
  at : nth (statement_trees ss) number ≡ Some tree
  free : is_among text_eq (free_occurrences text_eq is_pseudo_variable tree) x ≡ true

free-in-one : (ss : StatementsOf Name) (x : Name) → is_among text_eq (free_in_statements text_eq is_pseudo_variable ss) x ≡ true → IsFreeIn ss x
free-in-one no_statements x e = absurd (false≢true e)
free-in-one (more_statements c t ss) x e =
    by_cases (is_among text_eq (free_occurrences text_eq is_pseudo_variable t) x) (λ h. record { number = 0; tree = t; at = refl; free = h })
    (λ f.
    let rest = free-in-one ss x (sym (ap (λ b. b || is_among text_eq (free_in_statements text_eq is_pseudo_variable ss) x) f) ∙ sym (list_any-append (text_eq x) (free_occurrences text_eq is_pseudo_variable t) (free_in_statements text_eq is_pseudo_variable ss)) ∙ e) in
    record { number = suc rest.number; tree = rest.tree; at = rest.at; free = rest.free })

module _ (i : ImageOf Name) (m : EntryOf Name) (path : List ℕ) (first n : ℕ) (ss : StatementsOf Name) (q : IsSequence m.tree path ss) (no_return : has_no_return m.tree (Run path first n) ≡ true) (fixed : AssignsNothingFixed (means text_words i m) m.tree.body)
    (assigns : assigns_no_outer text_asked m.tree (Run path first n) ≡ true) where
  abbrev run : StatementsOf Name
  run = run_of ss first n

  abbrev round : List (PlacedScope Name)
  round = round_of m.tree q

  run-in-scopes : AreInScopes alone (length path + 1) (statement_trees run) first round (on_from path (within m.tree))
  run-in-scopes j k c p x e h = in-sequence m.tree q (first + j) k c p x (omega (arith, e)) (nth-run ss first n j c h).0

  -- the path of a statement
  abbrev to : ℕ → List ℕ
  to k = path ++ k ∷ []

  long : (k : ℕ) → suc (length path) ≡ length (to k)
  long k = let l = length-append path (k ∷ []) in omega (arith, l)

  -- a statement of the run
  module _ (j : ℕ) (t : TreeOf Name) (at : nth (statement_trees run) j ≡ Some t) where
    there : (part_in m.tree.body (to (first + j)) ≡ Some t) × (j < n)
    there = let r = nth-run ss first n j t at in (part-below m.tree q (first + j) [] t t r.0 refl, r.1)

    closed : (r : List ℕ) → is_closure_in control_form m.tree.body (to (first + j) ++ r) ≡ is_closure_at control_form false t r
    closed = statement-closed m.tree q (first + j) t (nth-run ss first n j t at).0

    inside : (r : List ℕ) → is_within (Run path first n) (to (first + j) ++ r) ≡ true
    inside r = let l = there.1 in ap (is_within (Run path first n)) (append_assoc path ((first + j) ∷ []) r) ∙ within-run path first n (first + j) r (omega arith) (omega (arith, l))

    -- a name in the scopes round it
    local-there : (x : Name) → local_by text_eq (scopes_round (method_scope m.tree) (to (first + j))) x ≡ local_by text_eq round x
    local-there x = ap (λ r. local_by text_eq r x) (round-at m.tree q (first + j))

    -- what it assigns
    own-there : (r : List ℕ) (x : Name) (v : TreeOf Name) → part_at t r ≡ Some (assign x v) → (k : ℕ) → local_in text_eq is_pseudo_variable m.tree (to (first + j) ++ r) x ≡ Temporary k → nat_lt k (suc (length path)) ≡ false
    own-there r x v e k l = ap (nat_lt k) (long (first + j)) ∙ own-so m.tree (to (first + j)) t there.0 (Run path first n) inside (long (first + j)) assigns r x v e k l

    -- a node below it
    node-inner : (p : List ℕ) (u : TreeOf Name) → part_at t p ≡ Some u → IsInner (suc (length path)) (within m.tree (path ++ (first + j) ∷ p)) u
    node-inner p u e = record {
      no_return =
          filtered-none (λ (x : Placed Name). is_within (Run path first n) x.0) (λ (x : Placed Name). is_return x.1) (nodes m.tree.body) (path ++ (first + j) ∷ p, u)
          (denied (list_any (λ (x : Placed Name). is_return x.1) (filter (λ (x : Placed Name). is_within (Run path first n) x.0) (nodes m.tree.body))) no_return)
          (Contains-part_in m.tree.body (path ++ (first + j) ∷ p) u node) (let l = there.1 in within-run path first n (first + j) p (omega arith) (omega (arith, l)));
      loose = λ x v r.
          let so = not-fixed (is_pseudo_variable x) (local_by text_eq (scopes_round (method_scope m.tree) (path ++ (first + j) ∷ p)) x) (means_outside text_words i m.class m.meta x) (fixed (path ++ (first + j) ∷ p) x v (node ∙ ap Some r)) in
          (so.0, λ d a. so.1 d (sym (said-within m.tree (path ++ (first + j) ∷ p) x) ∙ a));
      own = λ x v r k a. own-there p x v (e ∙ ap Some r) k (ap (λ z. local_in text_eq is_pseudo_variable m.tree z x) (append_assoc path ((first + j) ∷ []) p) ∙ sym (said-within m.tree (path ++ (first + j) ∷ p) x) ∙ a);
    }
      where
        node : part_in m.tree.body (path ++ (first + j) ∷ p) ≡ Some u
        node = part-below m.tree q (first + j) p t u (nth-run ss first n j t at).0 e

    module _ (temps : are_temporaries_steady text_asked m.tree (Run path first n) ≡ true) where
      -- no closure assigns a temporary that it names and that is declared outside the run
      kept-there : (x : Name) (k : ℕ) → is_pseudo_variable x ≡ false → local_by text_eq round x ≡ Temporary k → is_among text_eq (free_occurrences text_eq is_pseudo_variable t) x ≡ true → keeps_in round x ≡ true
      kept-there x k p e free =
          let here = local-there x ∙ e in
          sym (ap (λ r. keeps_in r x) (round-at m.tree q (first + j)))
          ∙ keeps-open m.tree (to (first + j)) x p (scopes_round (method_scope m.tree) (to (first + j))) k (scopes-there m.tree (to (first + j)) t there.0) here
          (open-so m.tree (to (first + j)) t there.0 (Run path first n) inside (long (first + j)) temps x k p here closed free)

      -- and none in it reads one
      pub near-there : (x : Name) (k : ℕ) → is_pseudo_variable x ≡ false → local_by text_eq round x ≡ Temporary k → list_any (is_read_far x) (uses_of false t) ≡ false
      near-there x k p e = near-so m.tree (to (first + j)) t there.0 (Run path first n) inside (long (first + j)) temps x k p (local-there x ∙ e) closed

  run-inner : Among (Inner (suc (length path)) (on_from path (within m.tree))) (statement_trees run) first
  run-inner j k p u e = by (nth (statement_trees run) j) refl
    where
      by : (o : Option (TreeOf Name)) → nth (statement_trees run) j ≡ o → option_and_then (λ c. part_at c p) o ≡ Some u → IsInner (suc (length path)) (within m.tree (path ++ k ∷ p)) u
      by None h g = none-some g
      by (Some c) h g = subst (λ z. IsInner (suc (length path)) (within m.tree (path ++ z ∷ p)) u) (sym number) (node-inner j c h p u g)
        where
          number : k ≡ first + j
          number = omega (arith, e)

  -- no closure assigns a temporary that the run names and that is declared outside it
  pub kept-free : are_temporaries_steady text_asked m.tree (Run path first n) ≡ true → (x : Name) (k : ℕ) → is_pseudo_variable x ≡ false → local_by text_eq round x ≡ Temporary k → is_among text_eq (free_in_statements text_eq is_pseudo_variable run) x ≡ true → keeps_in round x ≡ true
  kept-free temps x k p e free = let one = free-in-one run x free in kept-there one.number one.tree one.at temps x k p e one.free

  run-low : (x : Name) (k : ℕ) → local_by text_eq round x ≡ Temporary k → nat_lt k (suc (length path)) ≡ true
  run-low x k e = lt-ltb k (suc (length path)) (scope-low m.tree q x k e)

  module _ (t : Name) (before after : Name → MeaningOf Name) (same : (x : Name) → before x ≡ after x) (sent : StatementsSendOnly (λ s. text_eq s t ≡ false) run) where
    -- the statements as a block, and the names that are passed
    abbrev pub whole : TreeOf Name
    whole = block [] [] run []

    abbrev pub names : List Name
    names = filter (λ x. is_local (said_by round x)) (free_names text_eq is_pseudo_variable whole)

    abbrev z : Filling
    z = record { arguments = names; passed = themselves names; before = before; after = after; round = declared_in round }

    -- they may stand in the new method
    pub run-may : StatementsMayFill z true (λ x. text_eq x t) [] run
    run-may =
        statements-stand whole round t before after same (suc (length path)) run-low run (length path + 1) first [] (on_from path (within m.tree)) run-in-scopes run-inner sent
        (λ x e p k. subst (λ xs. is_among text_eq xs x ≡ true) (sym (undeclaring (free_in_statements text_eq is_pseudo_variable run))) e)
