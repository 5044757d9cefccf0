-- An image, and the one in which an instance variable is read and assigned by messages to self.
use Rattle.std.specs.Prelude.{◌≡◌, ◌||◌, ℕ, false, List, [], ◌∷◌, ◌++◌, Some, codes}
use Rattle.std.specs.List.{AllByRecursion}
use Rattle.rb_base.specs.Names.{text_eq}
use Rattle.tree_model.specs.Tree.{StatementsOf}
use Rattle.scope_model.specs.SpecialNames.{is_pseudo_variable, control_form}
use Rattle.scope_model.specs.declared.local.ControlForm.TheVariants.{NoControl}
use Rattle.image_model.specs.Image.{EntryOf, DoItOf, ImageOf}
use Rattle.image_model.specs.Words.{text_words}
use Rattle.image_model.specs.Means.{means_outside}
use Rattle.run_model.specs.Values.{Name}
use Rattle.resolved_model.specs.ResolvedImages.{resolved_entry, resolved_image}
use Rattle.resolved_model.specs.Environments.{opened}
use Rattle.unfolded_calls.specs.Unfolding.{Allowed, IsBelow, IsTarget}
use Rattle.unfolded_calls.specs.SendsOnly.{StatementsSendOnly}
use Rattle.unfolded_places.specs.Accessed.{accessed_statements}
use Rattle.command_model.specs.Accessors.{getter, setter_of, accessing}
use Rattle.command_model.specs.MethodEffects.{new_method}

-- the two selectors whose methods may be missing
abbrev pub accessors_gone : Name → Name → Allowed
accessors_gone reader writer = record { is_gone = λ s. text_eq s reader || text_eq s writer; reach = 0 }

-- statements that send neither
abbrev pub SendsNeither : Name → Name → StatementsOf Name → Type 0
SendsNeither reader writer ss = StatementsSendOnly (λ s. (text_eq s reader || text_eq s writer) ≡ false) ss

module _ (i : ImageOf Name) (c x writer : Name) where
  -- A method before, which sends neither selector, and the method after: the same one; or, on the instance side of a class at or below that of the variable, where its name means the same outside all scopes, one with messages to self for the reads of the variable and for the assignments to it.
  pub data MethodAccessed : EntryOf Name → EntryOf Name → Type 0 where
    stays : (m : EntryOf Name) → SendsNeither x writer m.tree.body.statements → MethodAccessed m m
    accessed : (m : EntryOf Name) (d : Name) (source : List ℕ) → m.class ≡ Some d → m.meta ≡ false → IsBelow (resolved_image i).classes d c → means_outside text_words i (Some c) false x ≡ means_outside text_words i m.class m.meta x →
        SendsNeither x writer m.tree.body.statements →
        MethodAccessed m (record m { source = source; tree = record m.tree { body = record m.tree.body { statements = accessed_statements x x writer (opened m.tree.arguments m.tree.body.temporaries []) m.tree.body.statements } } })

  -- methods in order
  pub data MethodsAccessed : List (EntryOf Name) → List (EntryOf Name) → Type 0 where
    accessed_none : MethodsAccessed [] []
    accessed_more : {m m' : EntryOf Name} {ms ms' : List (EntryOf Name)} → MethodAccessed m m' → MethodsAccessed ms ms' → MethodsAccessed (m ∷ ms) (m' ∷ ms')

-- The methods of a class and of those below it reach an instance variable by its getter and its setter, which stand at the end and are found from each of these classes; nothing sent them before. The class is neither `Class` nor above it.
pub record IsVariableAbstracted (i j : ImageOf Name) : Type 0 where
  pub class : Name
  pub variable : Name
  pub writer : Name
  pub given : Name
  pub methods : List (EntryOf Name)
  pub getter_text : List ℕ
  pub setter_text : List ℕ
  pub changed : MethodsAccessed i class variable writer i.methods methods
  pub after : j ≡ record i { methods = (methods ++ new_method class false accessing getter_text (getter variable) ∷ []) ++ new_method class false accessing setter_text (setter_of variable writer given) ∷ [] }
  pub doits : AllByRecursion (λ (d : DoItOf Name). SendsNeither variable writer d.body.statements) i.doits
  pub reads : IsTarget (resolved_image j) (accessors_gone variable writer) class false variable (resolved_entry j (new_method class false accessing getter_text (getter variable)))
  pub writes : IsTarget (resolved_image j) (accessors_gone variable writer) class false writer (resolved_entry j (new_method class false accessing setter_text (setter_of variable writer given)))
  pub user : IsBelow (resolved_image i).classes (codes "Class") class → ⊥
  pub plain_variable : is_pseudo_variable variable ≡ false
  pub plain_given : is_pseudo_variable given ≡ false
  pub other : text_eq variable given ≡ false
  pub message : control_form writer ≡ NoControl
