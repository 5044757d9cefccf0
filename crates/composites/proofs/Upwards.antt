-- The commands by which variables and methods go up are those that actions stand for.
use Rattle.std.proofs.Common.{◌≡◌, ℕ, ◌&&◌, Bool, true, false, not, List, [], ◌∷◌, ◌++◌, map, filter, Option, None, Some, option_map, slice_get, refl, sym, ap, ◌∙◌}
use Rattle.std.specs.Prelude.{if◌then◌else◌, nat_eq}
use Rattle.std.specs.List.{filter_map}
use Rattle.std.specs.Option.{option_and_then, option_map_or}
use Rattle.std.proofs.lemmas.Simd.{map-map}
use Rattle.tree_model.specs.Nodes.{Placed, nodes}
use Rattle.st_tree.specs.View.{sequence_of}
use Rattle.image_model.specs.Image.{ClassOf, EntryOf}
use Rattle.image_model.specs.Uses.{name_used}
use Rattle.image_model.specs.Chain.{class_named}
use Rattle.command_model.specs.Commands.{CommandOf, PushUpInstVar, PushUpMethod}
use Rattle.session_model.specs.Steps.{names_it, shared_pushes}
use Rattle.mentions.specs.Mentions.{trees_of_nodes}
use Rattle.commands.specs.Views.{command_of}
use Rattle.commands.specs.declared.command.Command.{Command}
use Rattle.commands.specs.declared.command.Command.TheVariants as command
use Rattle.class_table.specs.declared.record.ClassRec.{ClassRec}
use Rattle.class_table.specs.declared.record.MethodRec.{MethodRec}
use Rattle.class_table.specs.Finding.{named_in}
use Rattle.class_table.specs.Slots.{Slots}
use Rattle.class_table.specs.Valid.{IsLive, IsOrderly}
use Rattle.class_table.specs.View.{class_name, class_of, entry_of, live_at, number_image}
use Rattle.class_questions.proofs.AnyLive.{live_at-live}
use Rattle.class_questions.proofs.ChainLaws.{named-record}
use Rattle.code_questions.proofs.Witnesses.{any-mapped}
use Rattle.composites.specs.Pushed.{variable_push, have_all, has_name, is_used, method_push, slot_push}
use Rattle.composites.proofs.Lists.{found-live}

module _ (s : Slots) where
  -- the instance variables that the classes of a list share go up from the first of them, which may not be there
  pub shared-pushed : (cs : List ℕ) (c : ℕ) (others : List ℕ) → cs ≡ c ∷ others → (named : Option ℕ) → named ≡ named_in s.classes s.class_order c
      → (rec : Option ClassRec) → rec ≡ option_and_then (live_at s.classes s.class_order) named
      → (commands : List Command) → commands ≡ map (variable_push c) (filter (have_all s others) (option_map_or (λ (r : ClassRec). r.instance) rec []))
      → map command_of commands ≡ shared_pushes nat_eq (number_image s) cs
  shared-pushed cs c others split named at rec is commands e =
      ap (map command_of) e
      ∙ map-map command_of (variable_push c) (filter (have_all s others) (option_map_or (λ (r : ClassRec). r.instance) rec []))
      ∙ ap (λ (xs : List ℕ). map (PushUpInstVar c) (filter (have_all s others) xs)) (read rec ∙ ap (λ (p : Option (ClassOf ℕ)). option_map_or (λ (d : ClassOf ℕ). d.instance) p []) there)
      ∙ ap (shared_pushes nat_eq (number_image s)) (sym split)
    where
      there : option_map (class_of s.classes) rec ≡ class_named nat_eq (number_image s).classes c
      there = ap (option_map (class_of s.classes)) (is ∙ ap (option_and_then (live_at s.classes s.class_order)) at) ∙ named-record s c

      read : (p : Option ClassRec) → option_map_or (λ (r : ClassRec). r.instance) p [] ≡ option_map_or (λ (d : ClassOf ℕ). d.instance) (option_map (class_of s.classes) p) []
      read None = refl
      read (Some r) = refl

  module _ (o : IsOrderly s) (c x : ℕ) where
    abbrev push : EntryOf ℕ → CommandOf ℕ
    push m = PushUpMethod c false m.tree.selector

    -- the class of a live method
    class-named : (k : ℕ) → IsLive s.class_order k → has_name s c k ≡ option_map_or (nat_eq c) (class_name s.classes k) false
    class-named k l = ap (λ (p : Option ClassRec). option_map_or (λ (r : ClassRec). nat_eq c r.name) p false) (live_at-live s.classes s.class_order k l) ∙ by (slice_get s.classes k)
      where
        by : (p : Option ClassRec) → option_map_or (λ (r : ClassRec). nat_eq c r.name) p false ≡ option_map_or (nat_eq c) (option_map (λ (r : ClassRec). r.name) p) false
        by None = refl
        by (Some r) = refl

    -- the command of a live method
    of-method : (m : MethodRec) → IsLive s.class_order m.class → option_map command_of (method_push s c x m) ≡ (if names_it nat_eq c x (entry_of s.classes m) then Some (push (entry_of s.classes m)) else None)
    of-method m l =
        by m.meta (has_name s c m.class) (is_used x (trees_of_nodes (nodes (sequence_of m.tree.body))))
        ∙ (λ j. if class-named m.class l j && (not m.meta && any-mapped (λ (e : Placed ℕ). e.1) (λ t. option_map_or (nat_eq x) (name_used t) false) (nodes (sequence_of m.tree.body)) j) then Some (push (entry_of s.classes m)) else None)
      where
        by : (meta named used : Bool)
            → option_map command_of (if meta then None else if named then if used then Some (command.PushUpMethod (record { class = c; meta = false; selector = m.tree.selector })) else None else None)
            ≡ (if named && (not meta && used) then Some (push (entry_of s.classes m)) else None)
        by true true used = refl
        by true false used = refl
        by false false used = refl
        by false true true = refl
        by false true false = refl

    all-methods : map command_of (filter_map (slot_push s c x) s.method_order) ≡ map push (filter (names_it nat_eq c x) (number_image s).methods)
    all-methods = found-live (slot_push s c x) command_of (entry_of s.classes) (names_it nat_eq c x) push s.methods s.method_order at
      where
        at : (k : ℕ) → IsLive s.method_order k → option_map command_of (slot_push s c x k) ≡ option_and_then (λ m. if names_it nat_eq c x (entry_of s.classes m) then Some (push (entry_of s.classes m)) else None) (slice_get s.methods k)
        at k l = ap (λ p. option_map command_of (option_and_then (method_push s c x) p)) (live_at-live s.methods s.method_order k l) ∙ by (slice_get s.methods k) refl
          where
            by : (p : Option MethodRec) → slice_get s.methods k ≡ p
                → option_map command_of (option_and_then (method_push s c x) p) ≡ option_and_then (λ m. if names_it nat_eq c x (entry_of s.classes m) then Some (push (entry_of s.classes m)) else None) p
            by None e = refl
            by (Some m) e = of-method m (o.method_classes_live k m l e)

    -- the variable goes up, and then they do
    pub methods-pushed : (none first commands : List Command) → none ≡ [] → first ≡ none ++ variable_push c x ∷ [] → commands ≡ first ++ filter_map (slot_push s c x) s.method_order
        → map command_of commands ≡ PushUpInstVar c x ∷ map push (filter (names_it nat_eq c x) (number_image s).methods)
    methods-pushed none first commands a b e =
        ap (map command_of) (e ∙ ap (λ (cs : List Command). cs ++ filter_map (slot_push s c x) s.method_order) (b ∙ ap (λ (cs : List Command). cs ++ variable_push c x ∷ []) a))
        ∙ ap (λ (cs : List (CommandOf ℕ)). PushUpInstVar c x ∷ cs) all-methods
