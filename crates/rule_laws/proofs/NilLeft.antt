-- A rule with a certificate leaves the start expression `nil`, and holds of an image with it where it holds of the image.
use Rattle.std.proofs.Common.{◌≡◌, ℕ, Bool, true, false, not, List, [], ◌∷◌, ◌++◌, Option, Some, None, refl, sym, ap, subst, ◌∙◌}
use Rattle.std.specs.Prelude.{◌||◌, ◌&&◌, if◌then◌else◌, nat_le, is_none, option_map, option_and_then, codes, find}
use Rattle.std.specs.List.{list_all, list_any, concat, AllByRecursion}
use Rattle.std.specs.Option.{option_map_or}
use Rattle.std.proofs.lemmas.Bool.{false≢true}
use Rattle.rb_base.specs.Names.{text_eq}
use Rattle.tree_model.specs.Tree.{TreeOf, var, no_statements, more_statements, SequenceOf}
use Rattle.tree_model.specs.Path.{part_at, replaced}
use Rattle.tree_model.specs.Measure.{sequence_height}
use Rattle.text_model.specs.Whole.{canonical_doit}
use Rattle.image_model.specs.Image.{EntryOf, DoItOf, ImageOf, plus}
use Rattle.pattern_model.specs.Patterns.{PatternOf, meta, var_like, literal_like, send_like, cascade_like, assign_like, block_like, brace_like, return_like}
use Rattle.pattern_model.specs.Words.{text_pattern_words}
use Rattle.pattern_model.specs.MatchTree.{FoundOf, match_places}
use Rattle.pattern_model.specs.Rewritten.{rewritten_by, rewritten_within, rewritten, rewritten_sequence}
use Rattle.certified_model.specs.Marks.{Text, Mark, marked_tree}
use Rattle.certified_model.specs.Certificates.{laws, CertStep, turned, numbered_law, goes_back, sides_of, take_step, stuck_from, derives}
use Rattle.certified_rules.proofs.TableTurns.{numbered}
use Rattle.rename_model.specs.CommandWords.{text_command_words}
use Rattle.rename_model.specs.Conditions.{reflects, method_reflects, has_no_reflection}
use Rattle.command_model.specs.ParameterConditions.{is_shallow}
use Rattle.session_model.specs.Admitted.{nil_doit}
use Rattle.rewrite_model.specs.Notes.{equal_sequence}
use Rattle.rule_model.specs.RuleCommands.{RuleCommand, Reason, Unmet, Derived, rule_effect, first_false_of_rule}
use Rattle.command_model.specs.Conditions.{NoReflection, Shallow}
use Rattle.rule_model.specs.Beside.{doit_after}
use Rattle.rule_model.proofs.DoItBeside.{goes_along}
use Rattle.rule_laws.proofs.RuleHolds.{rule_holds}

-- no side of a law is a variable
abbrev NeverVariable : PatternOf Text × PatternOf Text → Type 0
NeverVariable l = (m : Mark) → turned l (var m) ≡ None

none_forth : AllByRecursion NeverVariable laws
none_forth = ((λ m. refl), ((λ m. refl), ((λ m. refl), ((λ m. refl), ((λ m. refl), ((λ m. refl), ((λ m. refl), ((λ m. refl), ((λ m. refl), ((λ m. refl), tt))))))))))

none_back : AllByRecursion (λ l. NeverVariable (l.1, l.0)) laws
none_back = ((λ m. refl), ((λ m. refl), ((λ m. refl), ((λ m. refl), ((λ m. refl), ((λ m. refl), ((λ m. refl), ((λ m. refl), ((λ m. refl), ((λ m. refl), tt))))))))))

sides_never : (x : CertStep) (l : PatternOf Text × PatternOf Text) → sides_of x ≡ Some l → NeverVariable l
sides_never x l e = by x.forward (goes_back x.law) e
  where
    swapped : (o : Option (PatternOf Text × PatternOf Text)) → numbered_law x.law laws ≡ o → option_map (λ k. (k.1, k.0)) o ≡ Some l → NeverVariable l
    swapped (Some k) q f = let same : ◌≡◌ {A = PatternOf Text × PatternOf Text} (k.1, k.0) l = cc in subst NeverVariable same (numbered (λ k. NeverVariable (k.1, k.0)) x.law laws k none_back q)
    swapped None q f = let bad : ⊥ = cc in absurd bad

    by : (b c : Bool) → (if b then numbered_law x.law laws else if c then option_map (λ k. (k.1, k.0)) (numbered_law x.law laws) else None) ≡ Some l → NeverVariable l
    by true c f = numbered NeverVariable x.law laws l none_forth f
    by false true f = swapped (numbered_law x.law laws) refl f
    by false false f = let bad : ⊥ = cc in absurd bad

-- so no step applies to one
no_step : (x : CertStep) (m : Mark) → take_step x (var m) ≡ None
no_step x m = by (sides_of x) refl
  where
    at : (l : PatternOf Text × PatternOf Text) → sides_of x ≡ Some l → (path : List ℕ) → option_and_then (λ u. option_map (λ v. replaced (var m) path v) (turned l u)) (part_at (var m) path) ≡ None
    at l s [] = ap (option_map (λ v. replaced (var m) [] v)) (sides_never x l s m)
    at l s (k ∷ path) = refl

    by : (o : Option (PatternOf Text × PatternOf Text)) → sides_of x ≡ o → option_and_then (λ sides. option_and_then (λ u. option_map (λ v. replaced (var m) x.path v) (turned sides u)) (part_at (var m) x.path)) o ≡ None
    by (Some l) s = at l s x.path
    by None s = refl

not_variable : (xs : List CertStep) (m : Mark) (p q : PatternOf Text) → marked_tree p ≡ var m → derives xs p q ≡ true → ⊥
not_variable [] m p q e d = false≢true d
not_variable (x ∷ xs) m p q e d =
    false≢true (sym (ap is_none (ap (stuck_from 1 (x ∷ xs) (marked_tree q)) e ∙ ap (λ (o : Option (TreeOf Mark)). option_map_or (stuck_from 2 xs (marked_tree q)) o (Some 1)) (no_step x m))) ∙ d)

-- a pattern with a certificate matches no variable
no_match : (xs : List CertStep) (p q : PatternOf Text) (n : Text) → derives xs p q ≡ true → match_places text_pattern_words p (var n) ≡ None
no_match xs (meta m) q n d = absurd (not_variable xs _ (meta m) q refl d)
no_match xs (var_like k) q n d = absurd (not_variable xs _ (var_like k) q refl d)
no_match xs (literal_like l) q n d = refl
no_match xs (send_like r s ps) q n d = refl
no_match xs (cascade_like r ms) q n d = refl
no_match xs (assign_like k p) q n d = refl
no_match xs (block_like ps ts ss e) q n d = refl
no_match xs (brace_like ps) q n d = refl
no_match xs (return_like p) q n d = refl

-- `nil` stays
pub nil_left : (c : RuleCommand) → derives c.certificate c.rule.pattern c.rule.replacement ≡ true → doit_after c nil_doit ≡ nil_doit
nil_left c d = ap (λ (b : SequenceOf Text). if equal_sequence text_eq nil_doit.body b then nil_doit else record nil_doit { body = b; source = canonical_doit b }) same
  where
    stays : rewritten text_pattern_words concat c.rule (var (codes "nil")) ≡ var (codes "nil")
    stays = ap (λ (o : FoundOf Text). rewritten_by text_pattern_words concat c.rule (rewritten_within text_pattern_words concat c.rule 0) (var (codes "nil")) o) (no_match c.certificate c.rule.pattern c.rule.replacement (codes "nil") d)

    same : rewritten_sequence text_pattern_words concat c.rule nil_doit.body ≡ nil_doit.body
    same = ap (λ (t : TreeOf Text). record nil_doit.body { statements = more_statements [] t no_statements }) stays

-- conditions of an image with `nil`
last_any : {X : Type 0} (p : X → Bool) (xs : List X) (x : X) → p x ≡ false → list_any p (xs ++ x ∷ []) ≡ list_any p xs
last_any p [] x h = ap (λ b. b || false) h
last_any p (y ∷ ys) x h = ap (λ b. p y || b) (last_any p ys x h)

last_all : {X : Type 0} (p : X → Bool) (xs : List X) (x : X) → p x ≡ true → list_all p (xs ++ x ∷ []) ≡ list_all p xs
last_all p [] x h = ap (λ b. b && true) h
last_all p (y ∷ ys) x h = ap (λ b. p y && b) (last_all p ys x h)

no_reflection_still : (i : ImageOf Text) → has_no_reflection text_command_words (plus i nil_doit) ≡ has_no_reflection text_command_words i
no_reflection_still i = ap (λ b. not (list_any (method_reflects text_command_words) i.methods || b)) (last_any (λ (d : DoItOf Text). reflects text_command_words d.body) i.doits nil_doit refl)

shallow_still : (i : ImageOf Text) → is_shallow (plus i nil_doit) ≡ is_shallow i
shallow_still i =
    ap (λ b. list_all (λ (m : EntryOf Text). m.kernel || nat_le (sequence_height m.tree.body) 200) i.methods && b)
    (last_all (λ (d : DoItOf Text). nat_le (sequence_height d.body) 200) i.doits nil_doit refl)

pub effect_nil : (c : RuleCommand) (i : ImageOf Text) → derives c.certificate c.rule.pattern c.rule.replacement ≡ true → rule_effect c (plus i nil_doit) ≡ plus (rule_effect c i) nil_doit
effect_nil c i d = goes_along c i nil_doit ∙ ap (plus (rule_effect c i)) (nil_left c d)

-- the first of three conditions that is false
abbrev first_of : RuleCommand → (a b s : Bool) → Option Reason
first_of c a b s = option_map_or (λ (j : Reason × Bool). Some j.0) (find (λ (j : Reason × Bool). not j.1) ((Unmet NoReflection, a) ∷ (Derived c.certificate, b) ∷ (Unmet Shallow, s) ∷ [])) None

pub nil_holds : (c : RuleCommand) (i : ImageOf Text) → first_false_of_rule c i ≡ None → first_false_of_rule c (plus i nil_doit) ≡ None
nil_holds c i e =
    let h = rule_holds c i e in
    (λ j. first_of c (no_reflection_still i j) (derives c.certificate c.rule.pattern c.rule.replacement) (is_shallow (effect_nil c i h.derived j)))
    ∙ ap (first_of c (has_no_reflection text_command_words i) (derives c.certificate c.rule.pattern c.rule.replacement)) (shallow_still (rule_effect c i)) ∙ e
