-- The conditions of a temporary that is replaced by what is assigned to it have the same answer once names are changed one to one.
use Rattle.std.proofs.Common.{◌≡◌, ℕ, suc, ◌==◌, Bool, false, not, ◌&&◌, ◌||◌, nat_lt, nat_eq, List, length, slice_get, ap, ◌∙◌}
use Rattle.std.specs.List.{list_any, list_all}
use Rattle.std.specs.Option.{option_map_or}
use Rattle.tree_model.specs.Tree.{map_names, map_method}
use Rattle.scope_model.specs.FreeNames.{free_names}
use Rattle.scope_model.proofs.Changed.{free_names-map_names}
use Rattle.image_model.specs.Image.{EntryOf, ImageOf, map_entry, map_image}
use Rattle.image_model.specs.Means.{means}
use Rattle.command_model.specs.SameMethods.{same_meaning}
use Rattle.command_model.specs.Parts.{Expression}
use Rattle.command_model.specs.Asked.{AskedOf}
use Rattle.command_model.specs.Places.{innermost}
use Rattle.command_model.specs.Temporaries.{LetOf, only, reads_of}
use Rattle.command_model.specs.PartConditions.{is_first_evaluated}
use Rattle.command_model.specs.LetConditions.{let_path, is_let_form, is_value_kept, is_value_no_control}
use Rattle.command_numbers.proofs.Lists.{all-total}
use Rattle.command_numbers.proofs.Everywhere.{Every, every_tree}
use Rattle.code_command_numbers.specs.KeepsMoves.{KeepsMoves}
use Rattle.code_command_numbers.proofs.PlacesMapped.{innermost-map}
use Rattle.code_command_numbers.proofs.LetsMapped.{map_let, reads_of-map}
use Rattle.code_command_numbers.proofs.PartConditionsMapped.{count_at-map, is_plain-map, is_first_evaluated-map}
use Rattle.code_command_numbers.proofs.InlineConditionsMapped.{makes_control-map, means_alike}

-- where a place stands by an assignment
abbrev is_before : {N : Type 0} → LetOf N → List ℕ → Bool
is_before e path = option_map_or (λ k. nat_lt k e.number) (slice_get path (length e.sequence)) false

abbrev is_in_next : {N : Type 0} → LetOf N → List ℕ → Bool
is_in_next e path = option_map_or (nat_eq (suc e.number)) (slice_get path (length e.sequence)) false

module _ {M N : Type 0} (f : M → N) (a : AskedOf M) (b : AskedOf N) (keeps : KeepsMoves Every f a b) (i : ImageOf M) (m : EntryOf M) (x : M) (e : LetOf M) where
  -- the reads of the temporary
  reads_there : reads_of b (map_method f m.tree) (f x) ≡ reads_of a m.tree x
  reads_there = reads_of-map f a b keeps.asked m.tree x

  -- a value that is plain, or has one read
  pub is_let_form-map : is_let_form b (map_image f i) (map_entry f m) (f x) (map_let f e) ≡ is_let_form a i m x e
  is_let_form-map =
      λ j. nat_lt (suc e.number) (count_at-map f m.tree.body e.sequence j)
      && ((is_plain-map f a b keeps i m (let_path e) e.value j && not (list_any (is_before e) (reads_there j))) || one j)
    where
      here : List ℕ → Bool
      here r = (innermost m.tree r == length e.sequence && is_in_next e r) && is_first_evaluated a i m (Expression r)

      there : List ℕ → Bool
      there r = (innermost (map_method f m.tree) r == length e.sequence && is_in_next e r) && is_first_evaluated b (map_image f i) (map_entry f m) (Expression r)

      at : (r : List ℕ) → there r ≡ here r
      at r = λ j. (innermost-map f m.tree r j == length e.sequence && is_in_next e r) && is_first_evaluated-map f a b keeps i m (Expression r) j

      one : option_map_or there (only (reads_of b (map_method f m.tree) (f x))) false ≡ option_map_or here (only (reads_of a m.tree x)) false
      one = λ j. option_map_or (λ r. at r j) (only (reads_there j)) false

  -- names of the value that mean the same at each read
  pub is_value_kept-map : is_value_kept b (map_image f i) (map_entry f m) (f x) (map_let f e) ≡ is_value_kept a i m x e
  is_value_kept-map =
      (λ j. list_all (λ r. at r j) (reads_there j))
    where
      kept : List ℕ → M → Bool
      kept r n = same_meaning a.words.tests.same (means a.words i m (let_path e) n) (means a.words i m r n)

      kept_there : List ℕ → N → Bool
      kept_there r n = same_meaning b.words.tests.same (means b.words (map_image f i) (map_entry f m) (let_path e) n) (means b.words (map_image f i) (map_entry f m) r n)

      at : (r : List ℕ) → list_all (kept_there r) (free_names b.words.tests.same b.words.tests.is_pseudo (map_names f e.value)) ≡ list_all (kept r) (free_names a.words.tests.same a.words.tests.is_pseudo e.value)
      at r =
          ap (list_all (kept_there r)) (free_names-map_names Every f a.words.tests b.words.tests keeps.asked.words.tests e.value (every_tree Every (λ n. tt) e.value))
          ∙ all-total f (kept r) (kept_there r) (λ n. means_alike f a b keeps i m (let_path e) m r n) (free_names a.words.tests.same a.words.tests.is_pseudo e.value)

  -- the value above its reads
  pub is_value_no_control-map : is_value_no_control b (map_image f i) (map_entry f m) (f x) (map_let f e) ≡ is_value_no_control a i m x e
  is_value_no_control-map = λ j. not (list_any (λ r. makes_control-map f a.words b.words keeps.asked.words m.tree r e.value j) (reads_there j))
