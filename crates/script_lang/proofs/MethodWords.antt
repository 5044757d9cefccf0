-- What commands of methods and of variables in them ask for.
use Rattle.std.proofs.Common.{◌≡◌, ℕ, ◌<◌, Bool, List, [], ◌∷◌, length, get_or, Option, Some, None, Result, Ok, Err, refl, ap, ◌∙◌, arith}
use Rattle.std.specs.Borrow.{Bor}
use Rattle.std.specs.Option.{option_map}
use Rattle.grammar_model.specs.Terminal.{Text}
use Rattle.rb_base.specs.Names.{name_at}
use Rattle.event_trees.specs.Naming.{Grows}
use Rattle.event_trees.proofs.Known.{Grows-twice}
use Rattle.command_model.specs.Commands.{InlineTemp, RenameTemp}
use Rattle.session_model.specs.Scripts.{Request}
use Rattle.commands.specs.declared.command.MethodName.{MethodName}
use Rattle.script_model.specs.Arguments.{Place, a_class, a_variable, a_side, a_selector, Argument, name, side, side_of, argument, in_front, takes, method_and, arguments_of}
use Rattle.script_model.specs.Makers.{Maker, single, of_method, of_local, of_local_to}
use Rattle.script_model.specs.Commands.{Cause, BadArgument}
use Rattle.command_numbers.specs.MappedCommands.{map_command}
use Rattle.script_lang.specs.declared.verb.Verb.TheVariants as verb
use Rattle.script_lang.specs.declared.verb.MethodVerb.{MethodVerb}
use Rattle.script_lang.specs.declared.verb.MethodVerb.TheVariants as method
use Rattle.script_lang.specs.Shown.{IsMethodNamed, NamesNoMethod, asked, texts}
use Rattle.script_lang.specs.Asking.{method_command}
use Rattle.script_lang.proofs.Named.{made}
use Rattle.script_lang.proofs.Selectors.{nothing, other-count, texts-three, still}

-- what three words say in front of others
abbrev pub in_method : Text → Text → Text → Option (List Argument) → Option (List Argument)
in_method c m s o = in_front (argument a_class c) (in_front (argument a_side m) (in_front (argument a_selector s) o))

-- three words that say nothing in front of no others say nothing in front of any; and nothing is behind them
pub none-before : (x y z : Option Argument) → in_front x (in_front y (in_front z (Some []))) ≡ None → (o : Option (List Argument)) → in_front x (in_front y (in_front z o)) ≡ None
none-before None y z h o = refl
none-before (Some x) None z h o = refl
none-before (Some x) (Some y) None h o = refl
none-before (Some x) (Some y) (Some z) h o = absurd (cc)

pub none-behind : (x y z : Option Argument) → in_front x (in_front y (in_front z None)) ≡ None
none-behind x y z = ap (λ (o : Option (List Argument)). in_front x (in_front y o)) (nothing z) ∙ ap (in_front x) (nothing y) ∙ nothing x

-- a word by which no method is named
module _ (c m s : Text) where
  pub no-class : argument a_class c ≡ None → NamesNoMethod c m s
  no-class p = ap (λ (o : Option Argument). in_front o (in_front (argument a_side m) (in_front (argument a_selector s) (Some [])))) p

  pub no-side : side_of m ≡ None → NamesNoMethod c m s
  no-side p = ap (λ (o : Option Bool). in_front (argument a_class c) (in_front (option_map side o) (in_front (argument a_selector s) (Some [])))) p ∙ nothing (argument a_class c)

  pub no-selector : argument a_selector s ≡ None → NamesNoMethod c m s
  no-selector p =
      ap (λ (o : Option Argument). in_front (argument a_class c) (in_front (argument a_side m) (in_front o (Some [])))) p
      ∙ ap (in_front (argument a_class c)) (nothing (argument a_side m))
      ∙ nothing (argument a_class c)

-- a table that grows
pub named-grown : {one later : List Text} {m : MethodName} {c w s : Text} → Grows one later → (m.class < length one) × (m.selector < length one) → IsMethodNamed one m c w s → IsMethodNamed later m c w s
named-grown {one} {later} {m} g known n = record {
  class_is = n.class_is ∙ still one later m.class known.0 g;
  side_is = n.side_is;
  selector_is = n.selector_is ∙ still one later m.selector known.1 g;
}

-- what three words say that name a method
in-method : {names : List Text} {m : MethodName} {c w s : Text} → IsMethodNamed names m c w s → (o : Option (List Argument)) →
    in_method c w s o ≡ in_front (Some (name (name_at names m.class))) (in_front (Some (side m.meta)) (in_front (Some (name (name_at names m.selector))) o))
in-method n o = λ i. in_front (n.class_is i) (in_front (option_map side (n.side_is i)) (in_front (n.selector_is i) o))

-- a command of a method
abbrev methods : MethodVerb → Maker
methods v = of_method (λ c meta s. single (method_command v c meta s))

method-asked : (v : MethodVerb) (ws : List Text) → asked (verb.Method v) ws ≡ made (methods v) (arguments_of (takes (a_class ∷ a_side ∷ a_selector ∷ [])) ws)
method-asked method.Remove ws = refl
method-asked method.PushUp ws = refl
method-asked method.PushDown ws = refl

pub method-count : (v : MethodVerb) (ws : List (Bor Text)) → (length ws ≡ 3 → ⊥) → asked (verb.Method v) (texts ws) ≡ Err BadArgument
method-count v ws h = other-count (verb.Method v) (a_class ∷ a_side ∷ a_selector ∷ []) (method-asked v) ws h

method-mapped : {M N : Type 0} (f : M → N) (v : MethodVerb) (c : M) (meta : Bool) (s : M) → method_command v (f c) meta (f s) ≡ map_command f (method_command v c meta s)
method-mapped f method.Remove c meta s = refl
method-mapped f method.PushUp c meta s = refl
method-mapped f method.PushDown c meta s = refl

module _ (v : MethodVerb) (ws : List (Bor Text)) (d e f : Bor Text) (h : length ws ≡ 3) where
  by-words : asked (verb.Method v) (texts ws) ≡ made (methods v) (in_method (get_or ws 0 d).now (get_or ws 1 e).now (get_or ws 2 f).now (Some []))
  by-words = method-asked v (texts ws) ∙ ap (λ (ts : List Text). made (methods v) (arguments_of (takes (a_class ∷ a_side ∷ a_selector ∷ [])) ts)) (texts-three ws d e f h)

  pub method-none : NamesNoMethod (get_or ws 0 d).now (get_or ws 1 e).now (get_or ws 2 f).now → asked (verb.Method v) (texts ws) ≡ Err BadArgument
  method-none none = by-words ∙ ap (made (methods v)) none

  pub method-said : (names : List Text) (m : MethodName) → IsMethodNamed names m (get_or ws 0 d).now (get_or ws 1 e).now (get_or ws 2 f).now →
      asked (verb.Method v) (texts ws) ≡ Ok (single (map_command (name_at names) (method_command v m.class m.meta m.selector)))
  method-said names m n =
      by-words ∙ ap (made (methods v)) (in-method n (Some [])) ∙ ap (λ k. let x : Result Request Cause = Ok (single k) in x) (method-mapped (name_at names) v m.class m.meta m.selector)

-- a renaming of a variable in a method
abbrev temporaries : Maker
temporaries = of_local_to (λ c meta s x y. single (RenameTemp c meta s x y))

abbrev its_places : List Place
its_places = method_and (a_variable ∷ a_variable ∷ [])

pub temporary-count : (ws : List (Bor Text)) → (length ws ≡ 5 → ⊥) → asked verb.RenameTemporary (texts ws) ≡ Err BadArgument
temporary-count ws h = other-count verb.RenameTemporary {m = temporaries} its_places (λ us. refl) ws h

pub texts-five : (ws : List (Bor Text)) (a b c d e : Bor Text) → length ws ≡ 5 →
    texts ws ≡ (get_or ws 0 a).now ∷ (get_or ws 1 b).now ∷ (get_or ws 2 c).now ∷ (get_or ws 3 d).now ∷ (get_or ws 4 e).now ∷ []
texts-five [] a b c d e h = absurd (omega (arith, h))
texts-five (p ∷ []) a b c d e h = absurd (omega (arith, h))
texts-five (p ∷ q ∷ []) a b c d e h = absurd (omega (arith, h))
texts-five (p ∷ q ∷ r ∷ []) a b c d e h = absurd (omega (arith, h))
texts-five (p ∷ q ∷ r ∷ s ∷ []) a b c d e h = absurd (omega (arith, h))
texts-five (p ∷ q ∷ r ∷ s ∷ t ∷ []) a b c d e h = refl
texts-five (p ∷ q ∷ r ∷ s ∷ t ∷ u ∷ us) a b c d e h = absurd (omega (arith, h))

module _ (ws : List (Bor Text)) (a b c d e : Bor Text) (h : length ws ≡ 5) where
  abbrev variable : Option Argument
  variable = argument a_class (get_or ws 3 d).now

  abbrev to : Option Argument
  to = argument a_class (get_or ws 4 e).now

  abbrev before : Option (List Argument) → Option (List Argument)
  before o = in_method (get_or ws 0 a).now (get_or ws 1 b).now (get_or ws 2 c).now o

  temporary-words : asked verb.RenameTemporary (texts ws) ≡ made temporaries (before (in_front variable (in_front to (Some []))))
  temporary-words = ap (λ (ts : List Text). made temporaries (arguments_of (takes its_places) ts)) (texts-five ws a b c d e h)

  temporary-no-method : NamesNoMethod (get_or ws 0 a).now (get_or ws 1 b).now (get_or ws 2 c).now → asked verb.RenameTemporary (texts ws) ≡ Err BadArgument
  temporary-no-method none = temporary-words ∙ ap (made temporaries) (none-before (argument a_class (get_or ws 0 a).now) (argument a_side (get_or ws 1 b).now) (argument a_selector (get_or ws 2 c).now) none (in_front variable (in_front to (Some []))))

  nothing-behind : made temporaries (before None) ≡ Err BadArgument
  nothing-behind = ap (made temporaries) (none-behind (argument a_class (get_or ws 0 a).now) (argument a_side (get_or ws 1 b).now) (argument a_selector (get_or ws 2 c).now))

  temporary-no-variable : variable ≡ None → asked verb.RenameTemporary (texts ws) ≡ Err BadArgument
  temporary-no-variable p = temporary-words ∙ ap (λ (o : Option Argument). made temporaries (before (in_front o (in_front to (Some []))))) p ∙ nothing-behind

  temporary-no-name : to ≡ None → asked verb.RenameTemporary (texts ws) ≡ Err BadArgument
  temporary-no-name p =
      temporary-words ∙ ap (λ (o : Option Argument). made temporaries (before (in_front variable (in_front o (Some []))))) p ∙ ap (λ (o : Option (List Argument)). made temporaries (before o)) (nothing variable) ∙ nothing-behind

  pub temporary-said : (one two later : List Text) (m : MethodName) (x y : ℕ) → Grows one two → Grows two later → (m.class < length one) × (m.selector < length one) → x < length two →
      IsMethodNamed one m (get_or ws 0 a).now (get_or ws 1 b).now (get_or ws 2 c).now →
      argument a_class (get_or ws 3 d).now ≡ Some (name (name_at two x)) → argument a_class (get_or ws 4 e).now ≡ Some (name (name_at later y)) →
      asked verb.RenameTemporary (texts ws) ≡ Ok (single (RenameTemp (name_at later m.class) m.meta (name_at later m.selector) (name_at later x) (name_at later y)))
  temporary-said one two later m x y g j known there n p q =
      temporary-words
      ∙ (λ i. made temporaries (before (in_front ((p ∙ still two later x there j) i) (in_front (q i) (Some [])))))
      ∙ ap (made temporaries) (in-method (named-grown (Grows-twice g j) known n) (Some (name (name_at later x) ∷ name (name_at later y) ∷ [])))

-- words of it that name no method, and one that is no name
pub temporary-in-none : (ws : List (Bor Text)) (a b c : Bor Text) → length ws ≡ 5 → NamesNoMethod (get_or ws 0 a).now (get_or ws 1 b).now (get_or ws 2 c).now → asked verb.RenameTemporary (texts ws) ≡ Err BadArgument
temporary-in-none ws a b c h none = temporary-no-method ws a b c c c h none

pub temporary-of-none : (ws : List (Bor Text)) (d : Bor Text) → length ws ≡ 5 → argument a_class (get_or ws 3 d).now ≡ None → asked verb.RenameTemporary (texts ws) ≡ Err BadArgument
temporary-of-none ws d h p = temporary-no-variable ws d d d d d h p

pub temporary-to-none : (ws : List (Bor Text)) (d : Bor Text) → length ws ≡ 5 → argument a_class (get_or ws 4 d).now ≡ None → asked verb.RenameTemporary (texts ws) ≡ Err BadArgument
temporary-to-none ws d h p = temporary-no-name ws d d d d d h p

-- a variable in a method that becomes what is assigned to it
abbrev inlined : Maker
inlined = of_local (λ c meta s x. single (InlineTemp c meta s x))

abbrev its_place : List Place
its_place = method_and (a_variable ∷ [])

pub inlined-count : (ws : List (Bor Text)) → (length ws ≡ 4 → ⊥) → asked verb.InlineTemporary (texts ws) ≡ Err BadArgument
inlined-count ws h = other-count verb.InlineTemporary {m = inlined} its_place (λ us. refl) ws h

texts-four : (ws : List (Bor Text)) (a b c d : Bor Text) → length ws ≡ 4 → texts ws ≡ (get_or ws 0 a).now ∷ (get_or ws 1 b).now ∷ (get_or ws 2 c).now ∷ (get_or ws 3 d).now ∷ []
texts-four [] a b c d h = absurd (omega (arith, h))
texts-four (p ∷ []) a b c d h = absurd (omega (arith, h))
texts-four (p ∷ q ∷ []) a b c d h = absurd (omega (arith, h))
texts-four (p ∷ q ∷ r ∷ []) a b c d h = absurd (omega (arith, h))
texts-four (p ∷ q ∷ r ∷ s ∷ []) a b c d h = refl
texts-four (p ∷ q ∷ r ∷ s ∷ t ∷ ts) a b c d h = absurd (omega (arith, h))

module _ (ws : List (Bor Text)) (a b c d : Bor Text) (h : length ws ≡ 4) where
  inlined-no-method : NamesNoMethod (get_or ws 0 a).now (get_or ws 1 b).now (get_or ws 2 c).now → asked verb.InlineTemporary (texts ws) ≡ Err BadArgument
  inlined-no-method none =
      ap (λ (ts : List Text). made inlined (arguments_of (takes its_place) ts)) (texts-four ws a b c d h)
      ∙ ap (made inlined) (none-before (argument a_class (get_or ws 0 a).now) (argument a_side (get_or ws 1 b).now) (argument a_selector (get_or ws 2 c).now) none (in_front (argument a_class (get_or ws 3 d).now) (Some [])))

  inlined-no-variable : argument a_class (get_or ws 3 d).now ≡ None → asked verb.InlineTemporary (texts ws) ≡ Err BadArgument
  inlined-no-variable p =
      ap (λ (ts : List Text). made inlined (arguments_of (takes its_place) ts)) (texts-four ws a b c d h)
      ∙ ap (λ (o : Option Argument). made inlined (in_method (get_or ws 0 a).now (get_or ws 1 b).now (get_or ws 2 c).now (in_front o (Some [])))) p
      ∙ ap (made inlined) (none-behind (argument a_class (get_or ws 0 a).now) (argument a_side (get_or ws 1 b).now) (argument a_selector (get_or ws 2 c).now))

  pub inlined-said : (one later : List Text) (m : MethodName) (x : ℕ) → Grows one later → (m.class < length one) × (m.selector < length one) →
      IsMethodNamed one m (get_or ws 0 a).now (get_or ws 1 b).now (get_or ws 2 c).now → argument a_class (get_or ws 3 d).now ≡ Some (name (name_at later x)) →
      asked verb.InlineTemporary (texts ws) ≡ Ok (single (InlineTemp (name_at later m.class) m.meta (name_at later m.selector) (name_at later x)))
  inlined-said one later m x g known n p =
      ap (λ (ts : List Text). made inlined (arguments_of (takes its_place) ts)) (texts-four ws a b c d h)
      ∙ (λ i. made inlined (in_method (get_or ws 0 a).now (get_or ws 1 b).now (get_or ws 2 c).now (in_front (p i) (Some []))))
      ∙ ap (made inlined) (in-method (named-grown g known n) (Some (name (name_at later x) ∷ [])))

-- words of it that name no method, and one that is no name
pub inlined-in-none : (ws : List (Bor Text)) (a b c : Bor Text) → length ws ≡ 4 → NamesNoMethod (get_or ws 0 a).now (get_or ws 1 b).now (get_or ws 2 c).now → asked verb.InlineTemporary (texts ws) ≡ Err BadArgument
inlined-in-none ws a b c h none = inlined-no-method ws a b c c h none

pub inlined-of-none : (ws : List (Bor Text)) (d : Bor Text) → length ws ≡ 4 → argument a_class (get_or ws 3 d).now ≡ None → asked verb.InlineTemporary (texts ws) ≡ Err BadArgument
inlined-of-none ws d h p = inlined-no-variable ws d d d d h p
