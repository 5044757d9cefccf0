-- Where the name of a variable means it outside all blocks, it does so wherever no scope declares the name.
use Rattle.std.proofs.Common.{◌≡◌, ℕ, Bool, true, false, not, cond, ◌&&◌, List, [], refl, sym, ap, subst, ◌∙◌, true≢false}
use Rattle.std.specs.Prelude.{nat_eq}
use Rattle.std.specs.List.{list_any}
use Rattle.std.specs.Option.{option_map_or}
use Rattle.std.proofs.lemmas.Bool.{eqb-true}
use Rattle.tree_model.specs.Nodes.{Placed, statements_nodes}
use Rattle.scope_model.specs.declared.local.Local.{Local}
use Rattle.scope_model.specs.declared.local.Local.TheVariants.{Argument, Temporary, NotLocal}
use Rattle.scope_model.specs.Scope.{ScopeOf, scopes_round, local_by, local_in_scope}
use Rattle.scope_model.specs.FreeNames.{free_in_statements}
use Rattle.image_model.specs.Means.{MeaningOf, of_instance, pseudo, means_by}
use Rattle.image_model.specs.Uses.{name_used, is_variable}
use Rattle.command_model.specs.Places.{is_local}
use Rattle.use_questions.proofs.Meanings.{meaning_at, used-free}

module _ (is_pseudo : ℕ → Bool) (s : ScopeOf ℕ) (outside : ℕ → MeaningOf ℕ) (c x : ℕ) where
  -- what a name stands for in the scope, and whether a meaning is the variable
  abbrev at : List ℕ → ℕ → MeaningOf ℕ
  at = meaning_at is_pseudo s outside

  abbrev is_it : MeaningOf ℕ → Bool
  is_it = is_variable nat_eq of_instance c

  -- whether a name is the variable's, and no scope declares it
  abbrev pub is_open : List ℕ → ℕ → Bool
  is_open path n = nat_eq x n && not (is_local (local_in_scope nat_eq is_pseudo s path n))

  -- a name that means the variable in one place means it in another exactly if no scope declares it there
  passes : (b : Bool) (here there : Local) → is_it (cond b pseudo (means_by (cond b NotLocal here) (outside x))) ≡ true
      → is_it (cond b pseudo (means_by (cond b NotLocal there) (outside x))) ≡ not (is_local (cond b NotLocal there))
  passes true here there h = absurd (true≢false (sym h))
  passes false (Argument k) there h = absurd (true≢false (sym h))
  passes false (Temporary k) there h = absurd (true≢false (sym h))
  passes false NotLocal (Argument k) h = refl
  passes false NotLocal (Temporary k) h = refl
  passes false NotLocal NotLocal h = h

  -- the uses of the name, where outside all blocks it does not mean the variable
  pub meant-nowhere : is_it (at [] x) ≡ false → list_any (λ (e : Placed ℕ). option_map_or (λ n. nat_eq x n && is_it (at e.0 n)) (name_used e.1) false) (statements_nodes 0 s.statements) ≡ false
  meant-nowhere h =
      used-free is_pseudo is_it (record { no_pseudo = refl; no_argument = λ scope. refl; no_temporary = λ scope. refl }) s outside x
      ∙ ap (λ (b : Bool). b && list_any (nat_eq x) (free_in_statements nat_eq is_pseudo s.statements)) h

  -- where it does, a name means it exactly if no scope declares it
  module _ (h : is_it (at [] x) ≡ true) where
    pub means-open : (path : List ℕ) (n : ℕ) → (nat_eq x n && is_it (at path n)) ≡ is_open path n
    means-open path n = by (nat_eq x n) refl
      where
        by : (b : Bool) → nat_eq x n ≡ b → (b && is_it (at path n)) ≡ (b && not (is_local (local_in_scope nat_eq is_pseudo s path n)))
        by true e =
            subst (λ (k : ℕ). is_it (at path k) ≡ not (is_local (local_in_scope nat_eq is_pseudo s path k))) (eqb-true x n e)
            (passes (is_pseudo x) (local_by nat_eq (scopes_round s []) x) (local_by nat_eq (scopes_round s path) x) h)
        by false e = refl
