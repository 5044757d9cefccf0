-- What commands of a part of a method ask for.
use Rattle.std.proofs.Common.{◌≡◌, ℕ, ◌<◌, Bool, List, [], ◌∷◌, length, get_or, Option, Some, None, Ok, Err, refl, ap, ◌∙◌, arith}
use Rattle.std.specs.Borrow.{Bor}
use Rattle.std.specs.Option.{option_map}
use Rattle.grammar_model.specs.Terminal.{Text}
use Rattle.rb_base.specs.Names.{name_at}
use Rattle.event_trees.specs.Naming.{Grows}
use Rattle.command_model.specs.Commands.{ExtractMethod, InlineMethod, ExtractTemp}
use Rattle.session_model.specs.Scripts.{Request}
use Rattle.commands.specs.declared.command.MethodPart.{MethodPart}
use Rattle.script_model.specs.Arguments.{Place, a_class, a_variable, a_side, a_selector, a_number, Argument, name, side, number, number_of, argument, in_front, takes, part_and, arguments_of}
use Rattle.script_model.specs.Makers.{Maker, single, of_part, of_part_to}
use Rattle.script_model.specs.Commands.{BadArgument}
use Rattle.script_lang.specs.declared.verb.Verb.TheVariants as verb
use Rattle.script_lang.specs.declared.verb.ExtractVerb.{ExtractVerb}
use Rattle.script_lang.specs.declared.verb.ExtractVerb.TheVariants as extract
use Rattle.script_lang.specs.Shown.{IsPartNamed, NamesNoPart, asked, texts}
use Rattle.script_lang.proofs.Named.{made}
use Rattle.script_lang.proofs.Selectors.{nothing, other-count}
use Rattle.script_lang.proofs.MethodWords.{in_method, none-behind, named-grown, texts-five}

-- what five words say in front of others
abbrev in_part : (c m s f t : Text) → Option (List Argument) → Option (List Argument)
in_part c m s f t o = in_method c m s (in_front (option_map number (number_of f)) (in_front (option_map number (number_of t)) o))

-- what five words say that name a part
in-part : {names : List Text} {p : MethodPart} {c w s f t : Text} → IsPartNamed names p c w s f t → (o : Option (List Argument)) →
    in_part c w s f t o ≡ in_front (Some (name (name_at names p.method.class))) (in_front (Some (side p.method.meta)) (in_front (Some (name (name_at names p.method.selector))) (in_front (Some (number p.from)) (in_front (Some (number p.to)) o))))
in-part n o =
    λ i. in_front (n.method_is.class_is i) (in_front (option_map side (n.method_is.side_is i)) (in_front (n.method_is.selector_is i) (in_front (option_map number (n.from_is i)) (in_front (option_map number (n.to_is i)) o))))

-- five words that say nothing in front of no others say nothing in front of any; and nothing is behind them
none-before-part : (x y z u v : Option Argument) → in_front x (in_front y (in_front z (in_front u (in_front v (Some []))))) ≡ None → (o : Option (List Argument)) → in_front x (in_front y (in_front z (in_front u (in_front v o)))) ≡ None
none-before-part None y z u v h o = refl
none-before-part (Some x) None z u v h o = refl
none-before-part (Some x) (Some y) None u v h o = refl
none-before-part (Some x) (Some y) (Some z) None v h o = refl
none-before-part (Some x) (Some y) (Some z) (Some u) None h o = refl
none-before-part (Some x) (Some y) (Some z) (Some u) (Some v) h o = absurd (cc)

none-behind-part : (x y z u v : Option Argument) → in_front x (in_front y (in_front z (in_front u (in_front v None)))) ≡ None
none-behind-part x y z u v =
    ap (λ (o : Option (List Argument)). in_front x (in_front y (in_front z (in_front u o)))) (nothing v) ∙ ap (λ (o : Option (List Argument)). in_front x (in_front y (in_front z o))) (nothing u) ∙ none-behind x y z

part-grown : {one later : List Text} {p : MethodPart} {c w s f t : Text} → Grows one later → (p.method.class < length one) × (p.method.selector < length one) → IsPartNamed one p c w s f t → IsPartNamed later p c w s f t
part-grown g known n = record { method_is = named-grown g known n.method_is; from_is = n.from_is; to_is = n.to_is }

-- a message that becomes a body
abbrev inlining : Maker
inlining = of_part (λ c meta s from to. single (InlineMethod c meta s from to))

pub inlining-count : (ws : List (Bor Text)) → (length ws ≡ 5 → ⊥) → asked verb.InlineMethod (texts ws) ≡ Err BadArgument
inlining-count ws h = other-count verb.InlineMethod {m = inlining} (part_and []) (λ us. refl) ws h

module _ (ws : List (Bor Text)) (a b c d e : Bor Text) (h : length ws ≡ 5) where
  pub inlining-none : NamesNoPart (get_or ws 0 a).now (get_or ws 1 b).now (get_or ws 2 c).now (get_or ws 3 d).now (get_or ws 4 e).now → asked verb.InlineMethod (texts ws) ≡ Err BadArgument
  inlining-none none = ap (λ (ts : List Text). made inlining (arguments_of (takes (part_and [])) ts)) (texts-five ws a b c d e h) ∙ ap (made inlining) none

  pub inlining-said : (names : List Text) (p : MethodPart) → IsPartNamed names p (get_or ws 0 a).now (get_or ws 1 b).now (get_or ws 2 c).now (get_or ws 3 d).now (get_or ws 4 e).now →
      asked verb.InlineMethod (texts ws) ≡ Ok (single (InlineMethod (name_at names p.method.class) p.method.meta (name_at names p.method.selector) p.from p.to))
  inlining-said names p n =
      ap (λ (ts : List Text). made inlining (arguments_of (takes (part_and [])) ts)) (texts-five ws a b c d e h) ∙ ap (made inlining) (in-part n (Some []))

-- a part that is put elsewhere
abbrev pub extraction : ExtractVerb → (c : Text) (meta : Bool) (s : Text) (from to : ℕ) (n : Text) → Request
extraction extract.Method c meta s from to n = single (ExtractMethod c meta s from to n)
extraction extract.Temporary c meta s from to n = single (ExtractTemp c meta s from to n)

abbrev extracting : ExtractVerb → Maker
extracting v = of_part_to (extraction v)

abbrev pub last_place : ExtractVerb → Place
last_place extract.Method = a_selector
last_place extract.Temporary = a_variable

extract-asked : (v : ExtractVerb) (ws : List Text) → asked (verb.Extract v) ws ≡ made (extracting v) (arguments_of (takes (part_and (last_place v ∷ []))) ws)
extract-asked extract.Method ws = refl
extract-asked extract.Temporary ws = refl

pub extract-count : (v : ExtractVerb) (ws : List (Bor Text)) → (length ws ≡ 6 → ⊥) → asked (verb.Extract v) (texts ws) ≡ Err BadArgument
extract-count v ws h = other-count (verb.Extract v) (part_and (last_place v ∷ [])) (extract-asked v) ws h

texts-six : (ws : List (Bor Text)) (a b c d e f : Bor Text) → length ws ≡ 6 →
    texts ws ≡ (get_or ws 0 a).now ∷ (get_or ws 1 b).now ∷ (get_or ws 2 c).now ∷ (get_or ws 3 d).now ∷ (get_or ws 4 e).now ∷ (get_or ws 5 f).now ∷ []
texts-six [] a b c d e f h = absurd (omega (arith, h))
texts-six (p ∷ []) a b c d e f h = absurd (omega (arith, h))
texts-six (p ∷ q ∷ []) a b c d e f h = absurd (omega (arith, h))
texts-six (p ∷ q ∷ r ∷ []) a b c d e f h = absurd (omega (arith, h))
texts-six (p ∷ q ∷ r ∷ s ∷ []) a b c d e f h = absurd (omega (arith, h))
texts-six (p ∷ q ∷ r ∷ s ∷ t ∷ []) a b c d e f h = absurd (omega (arith, h))
texts-six (p ∷ q ∷ r ∷ s ∷ t ∷ u ∷ []) a b c d e f h = refl
texts-six (p ∷ q ∷ r ∷ s ∷ t ∷ u ∷ v ∷ vs) a b c d e f h = absurd (omega (arith, h))

module _ (v : ExtractVerb) (ws : List (Bor Text)) (a b c d e f : Bor Text) (h : length ws ≡ 6) where
  abbrev in_front_of : Option (List Argument) → Option (List Argument)
  in_front_of o = in_part (get_or ws 0 a).now (get_or ws 1 b).now (get_or ws 2 c).now (get_or ws 3 d).now (get_or ws 4 e).now o

  extract-words : asked (verb.Extract v) (texts ws) ≡ made (extracting v) (in_front_of (in_front (argument (last_place v) (get_or ws 5 f).now) (Some [])))
  extract-words = extract-asked v (texts ws) ∙ ap (λ (ts : List Text). made (extracting v) (arguments_of (takes (part_and (last_place v ∷ []))) ts)) (texts-six ws a b c d e f h)

  extract-no-part : NamesNoPart (get_or ws 0 a).now (get_or ws 1 b).now (get_or ws 2 c).now (get_or ws 3 d).now (get_or ws 4 e).now → asked (verb.Extract v) (texts ws) ≡ Err BadArgument
  extract-no-part none =
      extract-words
      ∙ ap (made (extracting v))
      (none-before-part (argument a_class (get_or ws 0 a).now) (argument a_side (get_or ws 1 b).now) (argument a_selector (get_or ws 2 c).now) (argument a_number (get_or ws 3 d).now) (argument a_number (get_or ws 4 e).now) none
      (in_front (argument (last_place v) (get_or ws 5 f).now) (Some [])))

  extract-no-name : argument (last_place v) (get_or ws 5 f).now ≡ None → asked (verb.Extract v) (texts ws) ≡ Err BadArgument
  extract-no-name p =
      extract-words
      ∙ ap (λ (o : Option Argument). made (extracting v) (in_front_of (in_front o (Some [])))) p
      ∙ ap (made (extracting v))
      (none-behind-part (argument a_class (get_or ws 0 a).now) (argument a_side (get_or ws 1 b).now) (argument a_selector (get_or ws 2 c).now) (argument a_number (get_or ws 3 d).now) (argument a_number (get_or ws 4 e).now))

  pub extract-said : (one later : List Text) (p : MethodPart) (n : ℕ) → Grows one later → (p.method.class < length one) × (p.method.selector < length one) →
      IsPartNamed one p (get_or ws 0 a).now (get_or ws 1 b).now (get_or ws 2 c).now (get_or ws 3 d).now (get_or ws 4 e).now → argument (last_place v) (get_or ws 5 f).now ≡ Some (name (name_at later n)) →
      asked (verb.Extract v) (texts ws) ≡ Ok (extraction v (name_at later p.method.class) p.method.meta (name_at later p.method.selector) p.from p.to (name_at later n))
  extract-said one later p n g known is last =
      extract-words
      ∙ (λ i. made (extracting v) (in_front_of (in_front (last i) (Some []))))
      ∙ ap (made (extracting v)) (in-part (part-grown g known is) (Some (name (name_at later n) ∷ [])))

-- words of it that name no part, and a last one that is none
pub extract-of-none : (v : ExtractVerb) (ws : List (Bor Text)) (a b c d e : Bor Text) → length ws ≡ 6 → NamesNoPart (get_or ws 0 a).now (get_or ws 1 b).now (get_or ws 2 c).now (get_or ws 3 d).now (get_or ws 4 e).now → asked (verb.Extract v) (texts ws) ≡ Err BadArgument
extract-of-none v ws a b c d e h none = extract-no-part v ws a b c d e e h none

pub extract-to-none : (v : ExtractVerb) (ws : List (Bor Text)) (f : Bor Text) → length ws ≡ 6 → argument (last_place v) (get_or ws 5 f).now ≡ None → asked (verb.Extract v) (texts ws) ≡ Err BadArgument
extract-to-none v ws f h p = extract-no-name v ws f f f f f f h p
