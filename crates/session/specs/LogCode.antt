-- Logs are told apart by their fields.
use Rattle.std.specs.Prelude.{◌≡◌, ℕ, zero, suc, Bool, List, ◌⊎◌, refl}
use Rattle.std.proofs.Common.{inl, inr}
use Rattle.std.specs.Coded.{Coded, code_by, coded×, coded⊎, coded_ℕ, coded_bool, coded_list}
use Rattle.class_table.specs.declared.record.Place.{Place}
use Rattle.change_set.specs.declared.change.Change.{Change}
use Rattle.change_set.specs.ChangeCode.{coded_change, coded_place}
use Rattle.name_meanings.specs.declared.meaning.VariableKind.{VariableKind}
use Rattle.name_meanings.specs.declared.meaning.VariableKind.TheVariants as kind
use Rattle.commands.specs.declared.command.Renaming.{Renaming}
use Rattle.commands.specs.declared.command.Renaming.TheVariants as renaming
use Rattle.session.specs.declared.renames.Renames.{Renames}
use Rattle.session.specs.declared.renames.Renames.TheVariants as renames
use Rattle.session.specs.Log.{DoneCommand, Done, Log}

-- a kind of variables as a number
abbrev pub kind_number : VariableKind → ℕ
kind_number kind.Instance = 0
kind_number kind.ClassSide = 1
kind_number kind.Shared = 2

abbrev pub kind_from : ℕ → VariableKind
kind_from zero = kind.Instance
kind_from (suc zero) = kind.ClassSide
kind_from (suc (suc n)) = kind.Shared

pub kind_back : (k : VariableKind) → kind_from (kind_number k) ≡ k
kind_back kind.Instance = refl
kind_back kind.ClassSide = refl
kind_back kind.Shared = refl

abbrev pub coded_kind : Coded VariableKind
coded_kind = code_by ℕ coded_ℕ kind_number kind_from kind_back

-- the kind and the fields of a renaming
abbrev pub Fields : Type 0
Fields = (ℕ × ℕ) ⊎ ((VariableKind × (ℕ × (ℕ × ℕ))) ⊎ (ℕ × ℕ))

abbrev pub fields_of : Renaming → Fields
fields_of (renaming.Class c d) = inl (c, d)
fields_of (renaming.Variable k c x y) = inr (inl (k, (c, (x, y))))
fields_of (renaming.Selector s t) = inr (inr (s, t))

abbrev pub renaming_from : Fields → Renaming
renaming_from (inl p) = renaming.Class p.0 p.1
renaming_from (inr (inl p)) = renaming.Variable p.0 p.1.0 p.1.1.0 p.1.1.1
renaming_from (inr (inr p)) = renaming.Selector p.0 p.1

pub renaming_back : (r : Renaming) → renaming_from (fields_of r) ≡ r
renaming_back (renaming.Class c d) = refl
renaming_back (renaming.Variable k c x y) = refl
renaming_back (renaming.Selector s t) = refl

abbrev pub coded_renaming : Coded Renaming
coded_renaming =
    code_by Fields (coded⊎ (coded× coded_ℕ coded_ℕ) (coded⊎ (coded× coded_kind (coded× coded_ℕ (coded× coded_ℕ coded_ℕ))) (coded× coded_ℕ coded_ℕ)))
    fields_of renaming_from renaming_back

-- what a command renames
abbrev pub What : Type 0
What = ℕ ⊎ (Renaming ⊎ ((ℕ × (ℕ × ℕ)) ⊎ ((ℕ × (Bool × ℕ)) × (ℕ × ℕ))))

abbrev pub what_of : Renames → What
what_of renames.Nothing = inl 0
what_of (renames.Renaming r) = inr (inl r)
what_of (renames.Moved c x d) = inr (inr (inl (c, (x, d))))
what_of (renames.Temporary m x y) = inr (inr (inr ((m.class, (m.meta, m.selector)), (x, y))))

abbrev pub renames_from : What → Renames
renames_from (inl n) = renames.Nothing
renames_from (inr (inl r)) = renames.Renaming r
renames_from (inr (inr (inl p))) = renames.Moved p.0 p.1.0 p.1.1
renames_from (inr (inr (inr p))) = renames.Temporary (record { class = p.0.0; meta = p.0.1.0; selector = p.0.1.1 }) p.1.0 p.1.1

pub renames_back : (r : Renames) → renames_from (what_of r) ≡ r
renames_back renames.Nothing = refl
renames_back (renames.Renaming r) = refl
renames_back (renames.Moved c x d) = refl
renames_back (renames.Temporary m x y) = refl

abbrev pub coded_renames : Coded Renames
coded_renames = code_by What (coded⊎ coded_ℕ (coded⊎ coded_renaming (coded⊎ (coded× coded_ℕ (coded× coded_ℕ coded_ℕ)) (coded× (coded× coded_ℕ (coded× coded_bool coded_ℕ)) (coded× coded_ℕ coded_ℕ))))) what_of renames_from renames_back

-- the code of a command that was done, and of an action
abbrev pub coded_command : Coded DoneCommand
coded_command =
    code_by (List Change × Renames) (coded× (coded_list coded_change) coded_renames)
    (λ d. (d.changes, d.renames)) (λ p. record { changes = p.0; renames = p.1 }) (λ _. refl)

abbrev pub coded_done : Coded Done
coded_done =
    code_by (List DoneCommand × List Place) (coded× (coded_list coded_command) (coded_list coded_place))
    (λ d. (d.commands, d.touched)) (λ p. record { commands = p.0; touched = p.1 }) (λ _. refl)

-- the names of places
abbrev pub Names : Type 0
Names = List (List ℕ)

abbrev pub coded_names : Coded Names
coded_names = coded_list (coded_list coded_ℕ)

-- the code of a log
abbrev pub coded_log : Coded Log
coded_log =
    code_by (Names × (Names × (List Place × (List Done × List Done)))) (coded× coded_names (coded× coded_names (coded× (coded_list coded_place) (coded× (coded_list coded_done) (coded_list coded_done)))))
    (λ l. (l.index.methods, (l.index.doits, (l.stale, (l.back, l.forth))))) (λ p. record { index = record { methods = p.0; doits = p.1.0 }; stale = p.1.1.0; back = p.1.1.1.0; forth = p.1.1.1.1 }) (λ _. refl)
