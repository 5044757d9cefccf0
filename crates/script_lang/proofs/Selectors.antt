-- What commands of selectors ask for, and those behind whose words stands nothing.
use Rattle.std.proofs.Common.{◌≡◌, ℕ, ◌<◌, List, [], ◌∷◌, length, get_or, Option, Some, None, Ok, Err, refl, sym, ap, ◌∙◌, arith, false, true≢false}
use Rattle.std.specs.Prelude.{◌==◌}
use Rattle.std.specs.Borrow.{Bor}
use Rattle.std.specs.Option.{option_map}
use Rattle.std.proofs.lemmas.List.{length-map}
use Rattle.grammar_model.specs.Terminal.{Text}
use Rattle.rb_base.specs.Names.{name_at}
use Rattle.event_trees.specs.Naming.{Grows}
use Rattle.command_model.specs.Commands.{RenameSelector, RemoveParameter}
use Rattle.script_model.specs.Arguments.{Place, a_selector, a_number, Argument, name, number, number_of, argument, in_front, takes, arguments_of}
use Rattle.script_model.specs.Makers.{Maker, single, of_two, of_parameter}
use Rattle.script_model.specs.Commands.{BadArgument}
use Rattle.script_lang.specs.declared.verb.Verb.{Verb}
use Rattle.script_lang.specs.declared.verb.Verb.TheVariants as verb
use Rattle.script_lang.specs.Shown.{asked, texts}
use Rattle.script_lang.proofs.Growing.{name_at-grown}
use Rattle.script_lang.proofs.Named.{made}

-- nothing is in front of nothing
pub nothing : {X : Type 0} (o : Option X) → in_front o None ≡ None
nothing None = refl
nothing (Some x) = refl

-- other words than there are to be
other-words : (ps : List Place) (ws : List Text) → (length ws ≡ length ps → ⊥) → arguments_of (takes ps) ws ≡ None
other-words [] [] h = absurd (h refl)
other-words [] (w ∷ ws) h = refl
other-words (p ∷ ps) [] h = refl
other-words (p ∷ ps) (w ∷ ws) h = ap (in_front (argument p w)) (other-words ps ws (λ e. h (omega (arith, e)))) ∙ nothing (argument p w)

pub other-count : (v : Verb) {m : Maker} (ps : List Place) (asks : (ws : List Text) → asked v ws ≡ made m (arguments_of (takes ps) ws)) (ws : List (Bor Text)) → (length ws ≡ length ps → ⊥) → asked v (texts ws) ≡ Err BadArgument
other-count v {m} ps asks ws h =
    asks (texts ws) ∙ ap (made m) (other-words ps (texts ws) (λ e. h (sym (length-map ws (λ (w : Bor Text). w.now)) ∙ e)))

-- words where there are to be none
pub no-words-undo : (ws : List (Bor Text)) → (length ws == 0) ≡ false → asked verb.Undo (texts ws) ≡ Err BadArgument
no-words-undo [] h = absurd (true≢false h)
no-words-undo (w ∷ ws) h = refl

pub no-words-redo : (ws : List (Bor Text)) → (length ws == 0) ≡ false → asked verb.Redo (texts ws) ≡ Err BadArgument
no-words-redo [] h = absurd (true≢false h)
no-words-redo (w ∷ ws) h = refl

-- as many words as there are to be
pub texts-two : (ws : List (Bor Text)) (d e : Bor Text) → length ws ≡ 2 → texts ws ≡ (get_or ws 0 d).now ∷ (get_or ws 1 e).now ∷ []
texts-two [] d e h = absurd (omega (arith, h))
texts-two (a ∷ []) d e h = absurd (omega (arith, h))
texts-two (a ∷ b ∷ []) d e h = refl
texts-two (a ∷ b ∷ x ∷ xs) d e h = absurd (omega (arith, h))

pub texts-three : (ws : List (Bor Text)) (d e f : Bor Text) → length ws ≡ 3 → texts ws ≡ (get_or ws 0 d).now ∷ (get_or ws 1 e).now ∷ (get_or ws 2 f).now ∷ []
texts-three [] d e f h = absurd (omega (arith, h))
texts-three (a ∷ []) d e f h = absurd (omega (arith, h))
texts-three (a ∷ b ∷ []) d e f h = absurd (omega (arith, h))
texts-three (a ∷ b ∷ c ∷ []) d e f h = refl
texts-three (a ∷ b ∷ c ∷ x ∷ xs) d e f h = absurd (omega (arith, h))

-- a name that is in the table still
pub still : (one later : List Text) (c : ℕ) → c < length one → Grows one later → Some (name (name_at one c)) ≡ Some (name (name_at later c))
still one later c known g = ap (λ (n : Text). Some (name n)) (sym (name_at-grown g c known))

-- a renaming of a selector
pub renaming-count : (ws : List (Bor Text)) → (length ws ≡ 2 → ⊥) → asked verb.RenameSelector (texts ws) ≡ Err BadArgument
renaming-count ws h = other-count verb.RenameSelector {m = of_two (λ s t. single (RenameSelector s t))} (a_selector ∷ a_selector ∷ []) (λ us. refl) ws h

module _ (one later : List Text) (c : ℕ) (known : c < length one) (g : Grows one later) where
  pub selector-said : (ws : List (Bor Text)) (d e : Bor Text) (t : ℕ) → length ws ≡ 2 → argument a_selector (get_or ws 0 d).now ≡ Some (name (name_at one c)) → argument a_selector (get_or ws 1 e).now ≡ Some (name (name_at later t)) →
      asked verb.RenameSelector (texts ws) ≡ Ok (single (RenameSelector (name_at later c) (name_at later t)))
  selector-said ws d e t h p q =
      ap (λ (ts : List Text). asked verb.RenameSelector ts) (texts-two ws d e h) ∙ (λ i. made (of_two (λ s u. single (RenameSelector s u))) (in_front ((p ∙ still one later c known g) i) (in_front (q i) (Some []))))

abbrev renaming : Maker
renaming = of_two (λ s t. single (RenameSelector s t))

-- a word of it that is no selector
pub renaming-of-none : (ws : List (Bor Text)) (d : Bor Text) → length ws ≡ 2 → argument a_selector (get_or ws 0 d).now ≡ None → asked verb.RenameSelector (texts ws) ≡ Err BadArgument
renaming-of-none ws d h p =
    ap (λ (ts : List Text). asked verb.RenameSelector ts) (texts-two ws d d h) ∙ ap (λ (o : Option Argument). made renaming (in_front o (in_front (argument a_selector (get_or ws 1 d).now) (Some [])))) p

pub renaming-to-none : (ws : List (Bor Text)) (d : Bor Text) → length ws ≡ 2 → argument a_selector (get_or ws 1 d).now ≡ None → asked verb.RenameSelector (texts ws) ≡ Err BadArgument
renaming-to-none ws d h p =
    let first : Option Argument = argument a_selector (get_or ws 0 d).now in
    ap (λ (ts : List Text). asked verb.RenameSelector ts) (texts-two ws d d h) ∙ ap (λ (o : Option Argument). made renaming (in_front first (in_front o (Some [])))) p ∙ ap (made renaming) (nothing first)

-- a parameter that goes
abbrev removal : Maker
removal = of_parameter (λ s k t. single (RemoveParameter s k t))

pub removal-count : (ws : List (Bor Text)) → (length ws ≡ 3 → ⊥) → asked verb.RemoveParameter (texts ws) ≡ Err BadArgument
removal-count ws h = other-count verb.RemoveParameter {m = removal} (a_selector ∷ a_number ∷ a_selector ∷ []) (λ us. refl) ws h

module _ (ws : List (Bor Text)) (d e f : Bor Text) (h : length ws ≡ 3) where
  abbrev first : Option Argument
  first = argument a_selector (get_or ws 0 d).now

  abbrev second : Option Argument
  second = option_map number (number_of (get_or ws 1 e).now)

  abbrev third : Option Argument
  third = argument a_selector (get_or ws 2 f).now

  removal-words : asked verb.RemoveParameter (texts ws) ≡ made removal (in_front first (in_front second (in_front third (Some []))))
  removal-words = ap (λ (ts : List Text). made removal (arguments_of (takes (a_selector ∷ a_number ∷ a_selector ∷ [])) ts)) (texts-three ws d e f h)

  no-number : number_of (get_or ws 1 e).now ≡ None → asked verb.RemoveParameter (texts ws) ≡ Err BadArgument
  no-number p = removal-words ∙ ap (λ (o : Option ℕ). made removal (in_front first (in_front (option_map number o) (in_front third (Some []))))) p ∙ ap (made removal) (nothing first)

  pub removal-said : (one later : List Text) (s t k : ℕ) → s < length one → Grows one later →
      argument a_selector (get_or ws 0 d).now ≡ Some (name (name_at one s)) → number_of (get_or ws 1 e).now ≡ Some k → argument a_selector (get_or ws 2 f).now ≡ Some (name (name_at later t)) →
      asked verb.RemoveParameter (texts ws) ≡ Ok (single (RemoveParameter (name_at later s) k (name_at later t)))
  removal-said one later s t k known g p q r =
      removal-words ∙ (λ i. made removal (in_front ((p ∙ still one later s known g) i) (in_front (option_map number (q i)) (in_front (r i) (Some [])))))

pub number-missing : (ws : List (Bor Text)) (e : Bor Text) → length ws ≡ 3 → number_of (get_or ws 1 e).now ≡ None → asked verb.RemoveParameter (texts ws) ≡ Err BadArgument
number-missing ws e h p = no-number ws e e e h p

-- a word of it that is no selector
pub removal-of-none : (ws : List (Bor Text)) (d : Bor Text) → length ws ≡ 3 → argument a_selector (get_or ws 0 d).now ≡ None → asked verb.RemoveParameter (texts ws) ≡ Err BadArgument
removal-of-none ws d h p = removal-words ws d d d h ∙ ap (λ (o : Option Argument). made removal (in_front o (in_front (second ws d d d h) (in_front (third ws d d d h) (Some []))))) p

pub removal-to-none : (ws : List (Bor Text)) (d : Bor Text) → length ws ≡ 3 → argument a_selector (get_or ws 2 d).now ≡ None → asked verb.RemoveParameter (texts ws) ≡ Err BadArgument
removal-to-none ws d h p =
    removal-words ws d d d h
    ∙ ap (λ (o : Option Argument). made removal (in_front (first ws d d d h) (in_front (second ws d d d h) (in_front o (Some []))))) p
    ∙ ap (λ (o : Option (List Argument)). made removal (in_front (first ws d d d h) o)) (nothing (second ws d d d h))
    ∙ ap (made removal) (nothing (first ws d d d h))
