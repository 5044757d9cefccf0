-- Reading and assigning names, by the environment and then by the class and side of the running method.
use Rattle.std.specs.Prelude.{if◌then◌else◌, find, Option, Some, None, option_map, codes}
use Rattle.rb_base.specs.Names.{text_eq}
use Rattle.scope_model.specs.SpecialNames.{is_pseudo_variable}
use Rattle.image_model.specs.Image.{ImageOf}
use Rattle.image_model.specs.Words.{text_words}
use Rattle.image_model.specs.Means.{of_instance, of_class_side, of_class, MeaningOf, pseudo, argument, temporary, variable, a_class, transcript, undeclared, means_outside}
use Rattle.run_model.specs.Values.{Name, Value, nil_value, true_value, false_value, class_value, transcript_value, undeclared_name, not_assignable, reflective}
use Rattle.run_model.specs.Store.{Binding, holds, in_cell, Slot, Frame, value_of, same_pair, field_of, with_field, class_side_of, with_class_side, with_shared, with_cell, value_in_cell}
use Rattle.run_model.specs.Operations.{Operations, looks, changes}

-- what the innermost declaration of a name in the environment stands for
abbrev pub binding_of : Frame → Name → Option Binding
binding_of f n = option_map (λ (e : Slot). e.binding) (find (λ (e : Slot). text_eq n e.name) f.slots)

-- what a name stands for that the environment does not know
abbrev pub meaning_of : ImageOf Name → Frame → Name → MeaningOf Name
meaning_of i f n = means_outside text_words i f.home.class f.home.meta n

module _ (w : Operations) where
  -- the value of a pseudo-variable: `nil`, `true`, `false`, and what `self` is for `self` and `super`; `thisContext` is reflective
  abbrev pub reads_pseudo : Frame → Name → w.Act Value
  reads_pseudo f n =
      if text_eq n (codes "nil") then w.gives nil_value
      else if text_eq n (codes "true") then w.gives true_value
      else if text_eq n (codes "false") then w.gives false_value
      else if text_eq n (codes "thisContext") then w.fails reflective
      else w.gives f.me

  -- The value of a variable, a class, or `Transcript`: an instance variable of the object that is self, a class-instance variable of the class that is self, a class variable of its definer.
  abbrev pub reads_meaning : Frame → Name → MeaningOf Name → w.Act Value
  reads_meaning f n (variable of_instance c) = looks w (λ m. field_of m f.me n)
  reads_meaning f n (variable of_class_side c) = looks w (λ m. class_side_of m f.me n)
  reads_meaning f n (variable of_class c) = looks w (λ m. value_of same_pair m.shared (c, n))
  reads_meaning f n (a_class c) = w.gives (class_value c)
  reads_meaning f n transcript = w.gives transcript_value
  reads_meaning f n pseudo = w.fails (undeclared_name n)
  reads_meaning f n (argument scope) = w.fails (undeclared_name n)
  reads_meaning f n (temporary scope) = w.fails (undeclared_name n)
  reads_meaning f n undeclared = w.fails (undeclared_name n)

  -- the value of an argument or parameter, of a cell, or of what stands outside the environment
  abbrev pub reads_binding : ImageOf Name → Frame → Name → Option Binding → w.Act Value
  reads_binding i f n (Some (holds v)) = w.gives v
  reads_binding i f n (Some (in_cell k)) = looks w (λ m. value_in_cell m k)
  reads_binding i f n None = reads_meaning f n (meaning_of i f n)

  -- the value of a name
  abbrev pub reads : ImageOf Name → Frame → Name → w.Act Value
  reads i f n = if is_pseudo_variable n then reads_pseudo f n else reads_binding i f n (binding_of f n)

  -- A value is stored in a variable and answered; a class and `Transcript` are not assignable.
  abbrev pub assigns_meaning : Frame → Name → Value → MeaningOf Name → w.Act Value
  assigns_meaning f n v (variable of_instance c) = changes w v (λ m. with_field m f.me n v)
  assigns_meaning f n v (variable of_class_side c) = changes w v (λ m. with_class_side m f.me n v)
  assigns_meaning f n v (variable of_class c) = changes w v (λ m. with_shared m c n v)
  assigns_meaning f n v (a_class c) = w.fails (not_assignable n)
  assigns_meaning f n v transcript = w.fails (not_assignable n)
  assigns_meaning f n v pseudo = w.fails (undeclared_name n)
  assigns_meaning f n v (argument scope) = w.fails (undeclared_name n)
  assigns_meaning f n v (temporary scope) = w.fails (undeclared_name n)
  assigns_meaning f n v undeclared = w.fails (undeclared_name n)

  -- a value is stored in a temporary's cell, or outside the environment; an argument or parameter is not assignable, and no text that is read assigns one
  abbrev pub assigns_binding : ImageOf Name → Frame → Name → Value → Option Binding → w.Act Value
  assigns_binding i f n v (Some (holds u)) = w.fails (not_assignable n)
  assigns_binding i f n v (Some (in_cell k)) = changes w v (λ m. with_cell m k v)
  assigns_binding i f n v None = assigns_meaning f n v (meaning_of i f n)

  -- a value is stored under a name and answered; a pseudo-variable is not assignable, and no text that is read assigns one
  abbrev pub assigns : ImageOf Name → Frame → Name → Value → w.Act Value
  assigns i f n v = if is_pseudo_variable n then w.fails (not_assignable n) else assigns_binding i f n v (binding_of f n)
