-- The conditions of a temporary that is replaced by what is assigned to it.
use Rattle.std.specs.Prelude.{ℕ, suc, ◌==◌, Bool, false, not, ◌&&◌, ◌||◌, nat_lt, nat_eq, List, [], ◌∷◌, ◌++◌, length, slice_get}
use Rattle.std.specs.List.{list_any, list_all}
use Rattle.std.specs.Option.{option_map_or}
use Rattle.tree_model.specs.Path.{count, statement_trees}
use Rattle.scope_model.specs.FreeNames.{free_names, statements_at}
use Rattle.image_model.specs.Image.{EntryOf, ImageOf}
use Rattle.image_model.specs.Means.{means}
use Rattle.command_model.specs.SameMethods.{same_meaning}
use Rattle.command_model.specs.Parts.{Expression}
use Rattle.command_model.specs.Asked.{AskedOf}
use Rattle.command_model.specs.Places.{innermost}
use Rattle.command_model.specs.Plain.{is_plain}
use Rattle.command_model.specs.Temporaries.{LetOf, only, reads_of}
use Rattle.command_model.specs.PartConditions.{is_first_evaluated}
use Rattle.command_model.specs.InlineConditions.{makes_control}

-- the path of the assignment
abbrev pub let_path : {N : Type 0} → LetOf N → List ℕ
let_path e = e.sequence ++ e.number ∷ []

-- whether a place in the sequence stands in a statement of a lower number than the assignment, or in the next statement
abbrev is_before : {N : Type 0} → LetOf N → List ℕ → Bool
is_before e path = option_map_or (λ k. nat_lt k e.number) (slice_get path (length e.sequence)) false

abbrev is_in_next : {N : Type 0} → LetOf N → List ℕ → Bool
is_in_next e path = option_map_or (nat_eq (suc e.number)) (slice_get path (length e.sequence)) false

module _ {N : Type 0} (a : AskedOf N) (i : ImageOf N) (m : EntryOf N) (x : N) (e : LetOf N) where
  -- the value is plain, and no read stands before the assignment
  abbrev is_plain_let : Bool
  is_plain_let = is_plain a i m (let_path e) e.value && not (list_any (is_before e) (reads_of a m.tree x))

  -- there is one read; its innermost statement is the next one, which evaluates nothing but plain expressions before the read
  abbrev is_let_for_one : Bool
  is_let_for_one =
      option_map_or (λ r. (innermost m.tree r == length e.sequence && is_in_next e r) && is_first_evaluated a i m (Expression r)) (only (reads_of a m.tree x)) false

  -- the assignment is not the last statement of the sequence, and one or the other
  abbrev pub is_let_form : Bool
  is_let_form = nat_lt (suc e.number) (count (statement_trees (statements_at m.tree.body e.sequence))) && (is_plain_let || is_let_for_one)

  -- each free name of the value means the same at each read
  abbrev pub is_value_kept : Bool
  is_value_kept =
      list_all (λ r. list_all (λ n. same_meaning a.words.tests.same (means a.words i m (let_path e) n) (means a.words i m r n))
      (free_names a.words.tests.same a.words.tests.is_pseudo e.value)) (reads_of a m.tree x)

  -- the value makes no control send of a node above a read
  abbrev pub is_value_no_control : Bool
  is_value_no_control = not (list_any (λ r. makes_control a.words.tests.form m.tree r e.value) (reads_of a m.tree x))
