-- One turn of the loop over the commands that are carried out.
use Rattle.std.proofs.Common.{◌≡◌, ◌<◌, ◌+◌, ℕ, List, [], ◌∷◌, ◌++◌, length, map, take, drop, get_or, Result, Ok, Err, sym, ap, subst, ◌∙◌}
use Rattle.std.specs.List.{AllByRecursion}
use Rattle.std.proofs.lemmas.List.{take_more, drop_more, take-append-drop, map-append}
use Rattle.rb_base.specs.Names.{name_at}
use Rattle.run_model.specs.Values.{Name}
use Rattle.class_table.specs.Slots.{Slots}
use Rattle.command_model.specs.Commands.{CommandOf}
use Rattle.command_numbers.specs.CommandNames.{CommandNames}
use Rattle.command_numbers.specs.MappedCommands.{map_command}
use Rattle.commands.specs.Views.{command_of}
use Rattle.commands.specs.declared.command.Command.{Command}
use Rattle.reference_index.specs.Mentioned.{Mentioned}
use Rattle.session.specs.Log.{Done}
use Rattle.session.specs.Stepping.{IsCarriedOut}
use Rattle.session.specs.declared.refusal.StepRefusal.{StepRefusal}
use Rattle.session.proofs.UnderWay.{carried-both, carried-refused}

-- a command over texts, and what is known of one
abbrev pub text_in : List (List ℕ) → Command → CommandOf Name
text_in names c = map_command (name_at names) (command_of c)

abbrev pub IsKnownIn : List (List ℕ) → Command → Type 0
IsKnownIn names c = CommandNames (λ n. n < length names) (command_of c)

module _ (commands : List Command) (k : ℕ) (c : Command) (h : k < length commands) (at : c ≡ get_or commands k c) where
  -- the commands from there on
  from-there : drop k commands ≡ c ∷ drop (k + 1) commands
  from-there = drop_more commands k c h ∙ ap (λ (z : Command). z ∷ drop (k + 1) commands) (sym at)

  up-to-there : take (k + 1) commands ≡ take k commands ++ c ∷ []
  up-to-there = take_more commands k c h ∙ ap (λ (z : Command). take k commands ++ z ∷ []) (sym at)

  pub known-here : (names : List (List ℕ)) → AllByRecursion (IsKnownIn names) (drop k commands) → IsKnownIn names c
  known-here names known = (subst (AllByRecursion (IsKnownIn names)) from-there known).0

  pub known-next : (names new : List (List ℕ)) → new ≡ names → AllByRecursion (IsKnownIn names) (drop k commands) → AllByRecursion (IsKnownIn new) (drop (k + 1) commands)
  known-next names new same known =
      subst (λ (ns : List (List ℕ)). AllByRecursion (IsKnownIn ns) (drop (k + 1) commands)) (sym same) (subst (AllByRecursion (IsKnownIn names)) from-there known).1

  -- one more command
  pub each-next : (s t u : Slots) (x y z : Mentioned) (d e f : Done) (result : Result (Unit {0}) StepRefusal) → IsCarriedOut s x d (map (text_in s.names) (take k commands)) t y e (Ok tt) → IsCarriedOut t y e (text_in t.names c ∷ []) u z f result
      → IsCarriedOut s x d (map (text_in s.names) (take (k + 1) commands)) u z f result
  each-next s t u x y z d e f result first second =
      let one : IsCarriedOut t y e (text_in s.names c ∷ []) u z f result = subst (λ (ns : List (List ℕ)). IsCarriedOut t y e (text_in ns c ∷ []) u z f result) first.names second in
      subst (λ (cs : List (CommandOf Name)). IsCarriedOut s x d cs u z f result)
      (sym (ap (map (text_in s.names)) up-to-there ∙ map-append (text_in s.names) (take k commands) (c ∷ [])))
      (carried-both s t u x y z d e f (map (text_in s.names) (take k commands)) (text_in s.names c ∷ []) result first one)

  -- none after one that is refused
  pub each-refused : (s u : Slots) (x z : Mentioned) (d f : Done) (q : StepRefusal) → IsCarriedOut s x d (map (text_in s.names) (take (k + 1) commands)) u z f (Err q) → IsCarriedOut s x d (map (text_in s.names) commands) u z f (Err q)
  each-refused s u x z d f q first =
      subst (λ (cs : List (CommandOf Name)). IsCarriedOut s x d cs u z f (Err q))
      (sym (map-append (text_in s.names) (take (k + 1) commands) (drop (k + 1) commands)) ∙ ap (map (text_in s.names)) (take-append-drop (k + 1) commands))
      (carried-refused s u x z d f (map (text_in s.names) (take (k + 1) commands)) (map (text_in s.names) (drop (k + 1) commands)) q first)
