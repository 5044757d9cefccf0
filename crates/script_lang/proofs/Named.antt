-- What commands ask for behind whose words stand names.
use Rattle.std.proofs.Common.{◌≡◌, ℕ, zero, suc, ◌<◌, ◌≤◌, ◌-◌, Bool, true, false, ◌&&◌, if◌then◌else◌, List, [], ◌∷◌, length, map, take, drop, Option, Some, None, Result, Ok, Err, get_or, refl, sym, ap, subst, ◌∙◌, true≢false, arith}
use Rattle.std.specs.Prelude.{◌==◌}
use Rattle.std.proofs.lemmas.List.{length-map, take_all}
use Rattle.std.specs.List.{AllByRecursion, list_all}
use Rattle.std.specs.Option.{option_map, option_map_or, option_and_then}
use Rattle.rb_base.specs.Names.{name_at}
use Rattle.text_model.specs.Literals.{is_identifier}
use Rattle.command_model.specs.Commands.{CommandOf}
use Rattle.command_model.specs.Accessors.{setter_selector, setter_argument}
use Rattle.history_model.specs.Rules.{Perform}
use Rattle.session_model.specs.Actions.{ActionOf, Single, ExtractSuperclass}
use Rattle.session_model.specs.Scripts.{Request}
use Rattle.command_model.specs.Commands.{AddClass, RemoveClass}
use Rattle.commands.specs.Actions.{map_action, ActionNames}
use Rattle.command_numbers.specs.CommandNames.{CommandNames}
use Rattle.command_numbers.specs.MappedCommands.{map_command}
use Rattle.name_meanings.specs.declared.meaning.VariableKind.TheVariants as kind
use Rattle.script_model.specs.Arguments.{Place, a_class, a_variable, a_selector, a_side, a_number, Argument, name, in_front, arguments_of}
use Rattle.script_model.specs.Makers.{Text, Maker, names_in, of_one, of_two, of_three, of_classes}
use Rattle.script_model.specs.Commands.{Cause, BadArgument}
use Rattle.script_lang.specs.declared.verb.Verb.{Verb}
use Rattle.script_lang.specs.declared.verb.Verb.TheVariants as verb
use Rattle.script_lang.specs.declared.verb.PairVerb.{PairVerb}
use Rattle.script_lang.specs.declared.verb.PairVerb.TheVariants as pair
use Rattle.script_lang.specs.declared.verb.TripleVerb.{TripleVerb}
use Rattle.script_lang.specs.declared.verb.TripleVerb.TheVariants as triple
use Rattle.script_lang.specs.declared.verb.NewClassVerb.{NewClassVerb}
use Rattle.script_lang.specs.declared.verb.NewClassVerb.TheVariants as new_class
use Rattle.script_lang.specs.declared.verb.AccessorVerb.{AccessorVerb}
use Rattle.script_lang.specs.declared.verb.AccessorVerb.TheVariants as accessor
use Rattle.script_lang.specs.Shown.{asked, AreNames}
use Rattle.script_lang.specs.Asking.{accessor_action, pair_action, triple_command}
use Rattle.event_trees.specs.Naming.{Grows}
use Rattle.event_trees.proofs.Known.{Grows-twice}
use Rattle.script_lang.proofs.Growing.{name_at-grown, number-grown}

-- what so many names say, and any number of them behind
abbrev pub fitting : ℕ → Bool → List Text → Option (List Argument)
fitting zero false [] = Some []
fitting zero false (w ∷ ws) = None
fitting zero true ws = Some (map name ws)
fitting (suc n) behind [] = None
fitting (suc n) behind (w ∷ ws) = in_front (Some (name w)) (fitting n behind ws)

-- the same of words that are names, or not
abbrev pub told : ℕ → Bool → List Text → Option (List Argument)
told n behind ws = if list_all is_identifier ws then fitting n behind ws else None

-- a place of a name
abbrev IsName : Place → Type 0
IsName a_class = Unit {0}
IsName a_variable = Unit {0}
IsName a_selector = ⊥
IsName a_side = ⊥
IsName a_number = ⊥

-- one more word
one-more : (c d : Bool) (w : Text) (o : Option (List Argument)) → in_front (if c then Some (name w) else None) (if d then o else None) ≡ (if (c && d) then in_front (Some (name w)) o else None)
one-more true true w o = refl
one-more true false w o = refl
one-more false d w o = refl

either : {X : Type 0} (b : Bool) (x : X) → x ≡ (if b then x else x)
either true x = refl
either false x = refl

-- what words say at places of names
names-args : (ps : List Place) (behind : Bool) → AllByRecursion IsName ps → (ws : List Text) → arguments_of (record { places = ps; classes_behind = behind }) ws ≡ told (length ps) behind ws
names-args [] false h [] = refl
names-args [] true h [] = refl
names-args [] false h (w ∷ ws) = either (list_all is_identifier (w ∷ ws)) None
names-args [] true h (w ∷ ws) =
    ap (in_front (if is_identifier w then Some (name w) else None)) (names-args [] true h ws) ∙ one-more (is_identifier w) (list_all is_identifier ws) w (Some (map name ws))
names-args (p ∷ ps) behind h [] = refl
names-args (a_class ∷ ps) behind h (w ∷ ws) =
    ap (in_front (if is_identifier w then Some (name w) else None)) (names-args ps behind h.1 ws) ∙ one-more (is_identifier w) (list_all is_identifier ws) w (fitting (length ps) behind ws)
names-args (a_variable ∷ ps) behind h (w ∷ ws) =
    ap (in_front (if is_identifier w then Some (name w) else None)) (names-args ps behind h.1 ws) ∙ one-more (is_identifier w) (list_all is_identifier ws) w (fitting (length ps) behind ws)
names-args (a_selector ∷ ps) behind h (w ∷ ws) = absurd h.0
names-args (a_side ∷ ps) behind h (w ∷ ws) = absurd h.0
names-args (a_number ∷ ps) behind h (w ∷ ws) = absurd h.0

-- other names than so many
fitting-not : (n : ℕ) (ws : List Text) → (length ws ≡ n → ⊥) → fitting n false ws ≡ None
fitting-not zero [] h = absurd (h refl)
fitting-not zero (w ∷ ws) h = refl
fitting-not (suc n) [] h = refl
fitting-not (suc n) (w ∷ ws) h = ap (in_front (Some (name w))) (fitting-not n ws (λ e. h (omega (arith, e))))

-- fewer names than so many
fitting-few : (n : ℕ) (ws : List Text) → length ws < n → fitting n true ws ≡ None
fitting-few zero ws h = absurd (omega (arith, h))
fitting-few (suc n) [] h = refl
fitting-few (suc n) (w ∷ ws) h = ap (in_front (Some (name w))) (fitting-few n ws (omega (arith, h)))

-- what arguments make
abbrev pub made : Maker → Option (List Argument) → Result Request Cause
made m o = option_map_or (λ r. Ok r) (option_and_then m o) (Err BadArgument)

-- commands of names
pub pair-asked : (v : PairVerb) (ws : List Text) → asked (verb.Pair v) ws ≡ made (of_two (λ c x. Perform (pair_action v c x))) (told 2 false ws)
pair-asked pair.RenameClass ws = ap (made (of_two (λ c x. Perform (pair_action pair.RenameClass c x)))) (names-args (a_class ∷ a_class ∷ []) false (tt, (tt, tt)) ws)
pair-asked (pair.AddVariable kind.Instance) ws = ap (made (of_two (λ c x. Perform (pair_action (pair.AddVariable kind.Instance) c x)))) (names-args (a_class ∷ a_variable ∷ []) false (tt, (tt, tt)) ws)
pair-asked (pair.AddVariable kind.ClassSide) ws = ap (made (of_two (λ c x. Perform (pair_action (pair.AddVariable kind.ClassSide) c x)))) (names-args (a_class ∷ a_variable ∷ []) false (tt, (tt, tt)) ws)
pair-asked (pair.AddVariable kind.Shared) ws = ap (made (of_two (λ c x. Perform (pair_action (pair.AddVariable kind.Shared) c x)))) (names-args (a_class ∷ a_variable ∷ []) false (tt, (tt, tt)) ws)
pair-asked (pair.RemoveVariable kind.Instance) ws = ap (made (of_two (λ c x. Perform (pair_action (pair.RemoveVariable kind.Instance) c x)))) (names-args (a_class ∷ a_variable ∷ []) false (tt, (tt, tt)) ws)
pair-asked (pair.RemoveVariable kind.ClassSide) ws = ap (made (of_two (λ c x. Perform (pair_action (pair.RemoveVariable kind.ClassSide) c x)))) (names-args (a_class ∷ a_variable ∷ []) false (tt, (tt, tt)) ws)
pair-asked (pair.RemoveVariable kind.Shared) ws = ap (made (of_two (λ c x. Perform (pair_action (pair.RemoveVariable kind.Shared) c x)))) (names-args (a_class ∷ a_variable ∷ []) false (tt, (tt, tt)) ws)
pair-asked pair.InstanceUp ws = ap (made (of_two (λ c x. Perform (pair_action pair.InstanceUp c x)))) (names-args (a_class ∷ a_variable ∷ []) false (tt, (tt, tt)) ws)
pair-asked pair.InstanceDown ws = ap (made (of_two (λ c x. Perform (pair_action pair.InstanceDown c x)))) (names-args (a_class ∷ a_variable ∷ []) false (tt, (tt, tt)) ws)
pair-asked pair.SharedUp ws = ap (made (of_two (λ c x. Perform (pair_action pair.SharedUp c x)))) (names-args (a_class ∷ a_variable ∷ []) false (tt, (tt, tt)) ws)
pair-asked pair.UpWithMethods ws = ap (made (of_two (λ c x. Perform (pair_action pair.UpWithMethods c x)))) (names-args (a_class ∷ a_variable ∷ []) false (tt, (tt, tt)) ws)

abbrev pub accessing : AccessorVerb → Text → Text → Request
accessing v c x = Perform (accessor_action v c x (setter_selector x) (setter_argument x))

pub accessors-asked : (v : AccessorVerb) (ws : List Text) → asked (verb.Accessors v) ws ≡ made (of_two (accessing v)) (told 2 false ws)
accessors-asked accessor.Create ws = ap (made (of_two (accessing accessor.Create))) (names-args (a_class ∷ a_variable ∷ []) false (tt, (tt, tt)) ws)
accessors-asked accessor.Abstract ws = ap (made (of_two (accessing accessor.Abstract))) (names-args (a_class ∷ a_variable ∷ []) false (tt, (tt, tt)) ws)

pub removal-asked : (ws : List Text) → asked verb.RemoveClass ws ≡ made (of_one (λ c. Perform (Single (RemoveClass c)))) (told 1 false ws)
removal-asked ws = ap (made (of_one (λ c. Perform (Single (RemoveClass c))))) (names-args (a_class ∷ []) false (tt, tt) ws)

pub triple-asked : (v : TripleVerb) (ws : List Text) → asked (verb.Triple v) ws ≡ made (of_three (λ c x y. Perform (Single (triple_command v c x y)))) (told 3 false ws)
triple-asked (triple.RenameVariable kind.Instance) ws =
    ap (made (of_three (λ c x y. Perform (Single (triple_command (triple.RenameVariable kind.Instance) c x y))))) (names-args (a_class ∷ a_variable ∷ a_variable ∷ []) false (tt, (tt, (tt, tt))) ws)
triple-asked (triple.RenameVariable kind.ClassSide) ws =
    ap (made (of_three (λ c x y. Perform (Single (triple_command (triple.RenameVariable kind.ClassSide) c x y))))) (names-args (a_class ∷ a_variable ∷ a_variable ∷ []) false (tt, (tt, (tt, tt))) ws)
triple-asked (triple.RenameVariable kind.Shared) ws =
    ap (made (of_three (λ c x y. Perform (Single (triple_command (triple.RenameVariable kind.Shared) c x y))))) (names-args (a_class ∷ a_variable ∷ a_variable ∷ []) false (tt, (tt, (tt, tt))) ws)
triple-asked triple.SharedDown ws =
    ap (made (of_three (λ c x y. Perform (Single (triple_command triple.SharedDown c x y))))) (names-args (a_class ∷ a_variable ∷ a_class ∷ []) false (tt, (tt, (tt, tt))) ws)

-- what is done with a new class, and how many names stand in front of any number of them
abbrev pub making : NewClassVerb → Text → Text → List Text → Request
making new_class.Add d p under = Perform (Single (AddClass d p under))
making new_class.Extract d p under = Perform (ExtractSuperclass d p under)

abbrev pub least : NewClassVerb → ℕ
least new_class.Add = 2
least new_class.Extract = 3

pub new_class-asked : (v : NewClassVerb) (ws : List Text) → asked (verb.NewClass v) ws ≡ made (of_classes (making v)) (told (least v) true ws)
new_class-asked new_class.Add ws = ap (made (of_classes (making new_class.Add))) (names-args (a_class ∷ a_class ∷ []) true (tt, (tt, tt)) ws)
new_class-asked new_class.Extract ws = ap (made (of_classes (making new_class.Extract))) (names-args (a_class ∷ a_class ∷ a_class ∷ []) true (tt, (tt, (tt, tt))) ws)

-- what they ask for with words that are names, and with other words
module _ (v : Verb) {m : Maker} (n : ℕ) (behind : Bool) (asks : (ws : List Text) → asked v ws ≡ made m (told n behind ws)) where
  pub unspelled : (ws : List Text) → list_all is_identifier ws ≡ false → asked v ws ≡ Err BadArgument
  unspelled ws h = asks ws ∙ ap (λ (b : Bool). made m (if b then fitting n behind ws else None)) h

  pub named : {names : List Text} {ids : List ℕ} {ws : List Text} → AreNames names ids ws → asked v ws ≡ made m (fitting n behind (map (name_at names) ids))
  named {names} {ids} {ws} a = asks ws ∙ (λ i. made m (if a.spelled i then fitting n behind (a.texts i) else None))

-- other names than so many
module _ (v : Verb) {m : Maker} (n : ℕ) (asks : (ws : List Text) → asked v ws ≡ made m (told n false ws)) where
  pub miscounted : {names : List Text} {ids : List ℕ} {ws : List Text} → AreNames names ids ws → (length ids ≡ n → ⊥) → asked v ws ≡ Err BadArgument
  miscounted {names} {ids} a h = named v n false asks a ∙ ap (made m) (fitting-not n (map (name_at names) ids) (λ e. h (sym (length-map ids (name_at names)) ∙ e)))

-- an action over the texts of its names, and that they are known
pair-mapped : {M N : Type 0} (f : M → N) (v : PairVerb) (c x : M) → pair_action v (f c) (f x) ≡ map_action f (pair_action v c x)
pair-mapped f pair.RenameClass c x = refl
pair-mapped f (pair.AddVariable kind.Instance) c x = refl
pair-mapped f (pair.AddVariable kind.ClassSide) c x = refl
pair-mapped f (pair.AddVariable kind.Shared) c x = refl
pair-mapped f (pair.RemoveVariable kind.Instance) c x = refl
pair-mapped f (pair.RemoveVariable kind.ClassSide) c x = refl
pair-mapped f (pair.RemoveVariable kind.Shared) c x = refl
pair-mapped f pair.InstanceUp c x = refl
pair-mapped f pair.InstanceDown c x = refl
pair-mapped f pair.SharedUp c x = refl
pair-mapped f pair.UpWithMethods c x = refl

accessor-mapped : {M N : Type 0} (f : M → N) (v : AccessorVerb) (c x setter parameter : M) → accessor_action v (f c) (f x) (f setter) (f parameter) ≡ map_action f (accessor_action v c x setter parameter)
accessor-mapped f accessor.Create c x setter parameter = refl
accessor-mapped f accessor.Abstract c x setter parameter = refl

triple-mapped : {M N : Type 0} (f : M → N) (v : TripleVerb) (c x y : M) → triple_command v (f c) (f x) (f y) ≡ map_command f (triple_command v c x y)
triple-mapped f (triple.RenameVariable kind.Instance) c x y = refl
triple-mapped f (triple.RenameVariable kind.ClassSide) c x y = refl
triple-mapped f (triple.RenameVariable kind.Shared) c x y = refl
triple-mapped f triple.SharedDown c x y = refl

pair-known : (P : ℕ → Type 0) (v : PairVerb) (c x : ℕ) → P c → P x → ActionNames P (pair_action v c x)
pair-known P pair.RenameClass c x p q = (p, q)
pair-known P (pair.AddVariable kind.Instance) c x p q = (p, q)
pair-known P (pair.AddVariable kind.ClassSide) c x p q = (p, q)
pair-known P (pair.AddVariable kind.Shared) c x p q = (p, q)
pair-known P (pair.RemoveVariable kind.Instance) c x p q = (p, q)
pair-known P (pair.RemoveVariable kind.ClassSide) c x p q = (p, q)
pair-known P (pair.RemoveVariable kind.Shared) c x p q = (p, q)
pair-known P pair.InstanceUp c x p q = (p, q)
pair-known P pair.InstanceDown c x p q = (p, q)
pair-known P pair.SharedUp c x p q = (p, q)
pair-known P pair.UpWithMethods c x p q = (p, q)

accessor-known : (P : ℕ → Type 0) (v : AccessorVerb) (c x setter parameter : ℕ) → P c → P x → P setter → P parameter → ActionNames P (accessor_action v c x setter parameter)
accessor-known P accessor.Create c x setter parameter p q r s = (p, q, r, s)
accessor-known P accessor.Abstract c x setter parameter p q r s = (p, q, r, s)

triple-known : (P : ℕ → Type 0) (v : TripleVerb) (c x y : ℕ) → P c → P x → P y → CommandNames P (triple_command v c x y)
triple-known P (triple.RenameVariable kind.Instance) c x y p q r = (p, q, r)
triple-known P (triple.RenameVariable kind.ClassSide) c x y p q r = (p, q, r)
triple-known P (triple.RenameVariable kind.Shared) c x y p q r = (p, q, r)
triple-known P triple.SharedDown c x y p q r = (p, q, r)

-- two items, three, and two in front of others
pub two-items : {X : Type 0} (xs : List X) (a b : X) → length xs ≡ 2 → a ≡ get_or xs 0 a → b ≡ get_or xs 1 b → xs ≡ a ∷ b ∷ []
two-items [] a b h p q = absurd (omega (arith, h))
two-items (x ∷ []) a b h p q = absurd (omega (arith, h))
two-items (x ∷ y ∷ []) a b h p q = λ i. sym p i ∷ sym q i ∷ []
two-items (x ∷ y ∷ z ∷ zs) a b h p q = absurd (omega (arith, h))

pub three-items : {X : Type 0} (xs : List X) (a b c : X) → length xs ≡ 3 → a ≡ get_or xs 0 a → b ≡ get_or xs 1 b → c ≡ get_or xs 2 c → xs ≡ a ∷ b ∷ c ∷ []
three-items [] a b c h p q r = absurd (omega (arith, h))
three-items (x ∷ []) a b c h p q r = absurd (omega (arith, h))
three-items (x ∷ y ∷ []) a b c h p q r = absurd (omega (arith, h))
three-items (x ∷ y ∷ z ∷ []) a b c h p q r = λ i. sym p i ∷ sym q i ∷ sym r i ∷ []
three-items (x ∷ y ∷ z ∷ u ∷ us) a b c h p q r = absurd (omega (arith, h))

pub two-front : {X : Type 0} (xs : List X) (a b : X) → 2 ≤ length xs → a ≡ get_or xs 0 a → b ≡ get_or xs 1 b → xs ≡ a ∷ b ∷ take (length xs - 2) (drop 2 xs)
two-front [] a b h p q = absurd (omega (arith, h))
two-front (x ∷ []) a b h p q = absurd (omega (arith, h))
two-front (x ∷ y ∷ zs) a b h p q = λ i. sym p i ∷ sym q i ∷ sym (take_all (length (x ∷ y ∷ zs) - 2) zs (omega arith)) i

pub three-at-least : {X : Type 0} (xs : List X) → (length (take (length xs - 2) (drop 2 xs)) == 0) ≡ false → 3 ≤ length xs
three-at-least [] h = absurd (true≢false h)
three-at-least (x ∷ []) h = absurd (true≢false h)
three-at-least (x ∷ y ∷ []) h = absurd (true≢false h)
three-at-least (x ∷ y ∷ z ∷ zs) h = omega arith

module _ {names : List Text} {ids : List ℕ} {ws : List Text} (a : AreNames names ids ws) where
  abbrev known : ℕ → Type 0
  known n = n < length names

  -- two names
  pub pair-said : (v : PairVerb) (c x : ℕ) → ids ≡ c ∷ x ∷ [] → (r : ActionOf ℕ) → r ≡ pair_action v c x → asked (verb.Pair v) ws ≡ Ok (Perform (map_action (name_at names) r))
  pair-said v c x e r is =
      named (verb.Pair v) 2 false (pair-asked v) a
      ∙ ap (λ (ns : List ℕ). made (of_two (λ b y. Perform (pair_action v b y))) (fitting 2 false (map (name_at names) ns))) e
      ∙ ap (λ (s : ActionOf Text). let t : Result Request Cause = Ok (Perform s) in t) (pair-mapped (name_at names) v c x ∙ ap (map_action (name_at names)) (sym is))

  pub pair-names_known : (v : PairVerb) (c x : ℕ) → ids ≡ c ∷ x ∷ [] → (r : ActionOf ℕ) → r ≡ pair_action v c x → ActionNames known r
  pair-names_known v c x e r is =
      let all = subst (AllByRecursion known) e a.known in
      subst (ActionNames known) (sym is) (pair-known known v c x all.0 all.1.0)

  -- a class and a variable, of whose getter and setter names come into the table
  pub accessors-said : {two later : List Text} (v : AccessorVerb) (c x setter parameter : ℕ) → ids ≡ c ∷ x ∷ [] → Grows names two → Grows two later →
      name_at two setter ≡ setter_selector (name_at names x) → setter < length two → name_at later parameter ≡ setter_argument (name_at two x) → (r : ActionOf ℕ) → r ≡ accessor_action v c x setter parameter →
      asked (verb.Accessors v) ws ≡ Ok (Perform (map_action (name_at later) r))
  accessors-said {two} {later} v c x setter parameter e g j p k q r is =
      let all = subst (AllByRecursion known) e a.known in
      let class_stays : name_at later c ≡ name_at names c = name_at-grown (Grows-twice g j) c all.0 in
      let stays : name_at later x ≡ name_at names x = name_at-grown (Grows-twice g j) x all.1.0 in
      let setter_is : name_at later setter ≡ setter_selector (name_at names x) = name_at-grown j setter k ∙ p in
      let parameter_is : name_at later parameter ≡ setter_argument (name_at names x) = q ∙ ap setter_argument (name_at-grown g x all.1.0) in
      named (verb.Accessors v) 2 false (accessors-asked v) a
      ∙ ap (λ (ns : List ℕ). made (of_two (accessing v)) (fitting 2 false (map (name_at names) ns))) e
      ∙ (λ i. let t : Result Request Cause = Ok (Perform (accessor_action v (sym class_stays i) (sym stays i) (sym setter_is i) (sym parameter_is i))) in t)
      ∙ ap (λ (s : ActionOf Text). let t : Result Request Cause = Ok (Perform s) in t) (accessor-mapped (name_at later) v c x setter parameter ∙ ap (map_action (name_at later)) (sym is))

  pub accessors-known : {two later : List Text} (v : AccessorVerb) (c x setter parameter : ℕ) → ids ≡ c ∷ x ∷ [] → Grows names two → Grows two later → setter < length two → parameter < length later →
      (r : ActionOf ℕ) → r ≡ accessor_action v c x setter parameter → ActionNames (λ n. n < length later) r
  accessors-known {two} {later} v c x setter parameter e g j k l r is =
      let all = subst (AllByRecursion known) e a.known in
      let twice = Grows-twice g j in
      subst (ActionNames (λ n. n < length later)) (sym is)
      (accessor-known (λ n. n < length later) v c x setter parameter (number-grown twice c all.0) (number-grown twice x all.1.0) (number-grown j setter k) l)

  -- three names
  pub triple-said : (v : TripleVerb) (c x y : ℕ) → ids ≡ c ∷ x ∷ y ∷ [] → (r : CommandOf ℕ) → r ≡ triple_command v c x y → asked (verb.Triple v) ws ≡ Ok (Perform (Single (map_command (name_at names) r)))
  triple-said v c x y e r is =
      named (verb.Triple v) 3 false (triple-asked v) a
      ∙ ap (λ (ns : List ℕ). made (of_three (λ b z u. Perform (Single (triple_command v b z u)))) (fitting 3 false (map (name_at names) ns))) e
      ∙ ap (λ (s : CommandOf Text). let t : Result Request Cause = Ok (Perform (Single s)) in t) (triple-mapped (name_at names) v c x y ∙ ap (map_command (name_at names)) (sym is))

  pub triple-names_known : (v : TripleVerb) (c x y : ℕ) → ids ≡ c ∷ x ∷ y ∷ [] → (r : CommandOf ℕ) → r ≡ triple_command v c x y → CommandNames known r
  triple-names_known v c x y e r is =
      let all = subst (AllByRecursion known) e a.known in
      subst (CommandNames known) (sym is) (triple-known known v c x y all.0 all.1.0 all.1.1.0)

  -- a new class
  names-back : (ts : List Text) → names_in (map name ts) ≡ Some ts
  names-back [] = refl
  names-back (t ∷ ts) = ap (option_map (λ us. t ∷ us)) (names-back ts)

  pub new_class-said : (v : NewClassVerb) (d p : ℕ) (under : List ℕ) → ids ≡ d ∷ p ∷ under → least v ≤ length ids → asked (verb.NewClass v) ws ≡ Ok (making v (name_at names d) (name_at names p) (map (name_at names) under))
  new_class-said v d p under e enough =
      named (verb.NewClass v) (least v) true (new_class-asked v) a
      ∙ ap (λ (ns : List ℕ). made (of_classes (making v)) (fitting (least v) true (map (name_at names) ns))) e
      ∙ by v under (subst (λ (ns : List ℕ). least v ≤ length ns) e enough)
    where
      by : (v : NewClassVerb) (us : List ℕ) → least v ≤ length (d ∷ p ∷ us) →
          made (of_classes (making v)) (fitting (least v) true (map (name_at names) (d ∷ p ∷ us))) ≡ Ok (making v (name_at names d) (name_at names p) (map (name_at names) us))
      by new_class.Add us h = ap (λ (o : Option (List Text)). option_map_or (λ r. Ok r) (option_map (making new_class.Add (name_at names d) (name_at names p)) o) (Err BadArgument)) (names-back (map (name_at names) us))
      by new_class.Extract [] h = absurd (omega (arith, h))
      by new_class.Extract (u ∷ us) h =
          ap (λ (o : Option (List Text)). option_map_or (λ r. Ok r) (option_map (making new_class.Extract (name_at names d) (name_at names p)) o) (Err BadArgument)) (names-back (map (name_at names) (u ∷ us)))

  pub new_class-few : (v : NewClassVerb) → length ids < least v → asked (verb.NewClass v) ws ≡ Err BadArgument
  new_class-few v few =
      named (verb.NewClass v) (least v) true (new_class-asked v) a
      ∙ ap (made (of_classes (making v))) (fitting-few (least v) (map (name_at names) ids) (omega (arith, few, length-map ids (name_at names))))

pub least-two : (v : NewClassVerb) → 2 ≤ least v
least-two new_class.Add = omega arith
least-two new_class.Extract = omega arith
