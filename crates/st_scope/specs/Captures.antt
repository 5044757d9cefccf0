-- Assignments in closures, as one search finds them.
use Rattle.std.specs.Prelude.{ℕ, Bool, false, ◌&&◌, ◌||◌, Option, option_map, unwrap_or, nat_eq}
use Rattle.scope_model.specs.declared.local.ControlForm.{ControlForm}
use Rattle.scope_model.specs.Scope.{ScopeOf}
use Rattle.scope_model.specs.Uses.{UseOf, assigned_in_closure_of}

-- an assignment to the name that stands in a closure, if the whole is `inside` one
abbrev pub is_hit : Bool → ℕ → UseOf ℕ → Bool
is_hit inside n u = nat_eq n u.name && (u.is_assignment && (inside || u.in_closure))

-- the scope declares the name, and an assignment that means this declaration stands in a closure; false where there is no scope
abbrev pub assigned_in_option : (ℕ → ℕ → Bool) → (ℕ → Bool) → (ℕ → ControlForm) → Option (ScopeOf ℕ) → ℕ → Bool
assigned_in_option same is_pseudo form scope n = unwrap_or (option_map (λ s. assigned_in_closure_of same is_pseudo form s n) scope) false
