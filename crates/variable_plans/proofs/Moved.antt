-- The changes of a move make of the image what the command makes of it.
use Rattle.std.proofs.Common.{◌≡◌, ℕ, ◌<◌, ◌&&◌, Bool, true, false, cond, not, filter, List, [], ◌∷◌, ◌++◌, length, map, Option, None, Some, option_map, unwrap_or, slice_get, refl, sym, ap, subst, ◌∙◌}
use Rattle.std.specs.Prelude.{if◌then◌else◌, nat_eq}
use Rattle.std.specs.List.{list_any}
use Rattle.std.specs.Option.{option_and_then, option_map_or}
use Rattle.std.proofs.lemmas.Bool.{or_parts}
use Rattle.std.proofs.lemmas.List.{append-nil}
use Rattle.std.proofs.lemmas.Simd.{map-map}
use Rattle.image_model.specs.Image.{ClassOf, ImageOf}
use Rattle.image_model.specs.ImageNames.{ImageNames}
use Rattle.image_model.specs.Means.{of_instance, of_class_side, of_class, variables}
use Rattle.image_model.specs.Means as means
use Rattle.class_table.specs.declared.record.ClassRec.{ClassRec}
use Rattle.class_table.specs.declared.record.Place.{Place}
use Rattle.class_table.specs.Slots.{Slots}
use Rattle.class_table.specs.Finding.{named_in}
use Rattle.class_table.specs.Valid.{IsLive, IsOrderly}
use Rattle.class_table.specs.View.{class_name, class_of, live_at, number_image}
use Rattle.change_set.specs.declared.change.Change.{Change}
use Rattle.rename_model.specs.VariableRenamed.{with_variables}
use Rattle.command_model.specs.Commands.{MovesNoCode}
use Rattle.command_model.specs.Effects.{effect}
use Rattle.command_model.specs.Hierarchy as hierarchy
use Rattle.command_model.specs.Hierarchy.{is_child}
use Rattle.command_model.specs.Numbers.{number_writing}
use Rattle.command_model.specs.VariableEffects.{with_last, without, class_pushed_up, shared_moved}
use Rattle.commands.specs.Views.{asked_by, move_command, adds_variable, removes_variable}
use Rattle.commands.specs.declared.command.VariableMove.{VariableMove}
use Rattle.commands.specs.declared.command.VariableMove.TheVariants as move
use Rattle.name_meanings.specs.Meanings.{kind_of}
use Rattle.name_meanings.specs.declared.meaning.VariableKind.{VariableKind}
use Rattle.name_meanings.specs.declared.meaning.VariableKind.TheVariants as kind
use Rattle.plans.specs.Plan.{IsPlan}
use Rattle.class_questions.proofs.AnyLive.{live_at-live, live-live_at}
use Rattle.class_questions.proofs.ChainLaws.{named-record}
use Rattle.variable_plans.specs.declared.route.Classes.TheVariants as classes
use Rattle.variable_plans.specs.declared.route.Route.{Route}
use Rattle.variable_plans.specs.Routes.{is_among, name_above, superclass_name, route_of}
use Rattle.variable_plans.specs.Written.{classes_written}
use Rattle.variable_plans.specs.Records.{moved_names, with_moved, changed_record, leaves_class, enters_class, record_given, planned}
use Rattle.variable_plans.proofs.Written.{KeepsPlaces, IsMade, written-image, written-can, written-names, written-touched, written-orderly, written-fit}

-- the class after the variable left it, or came to it
abbrev pub class_by : means.VariableKind → (leaves enters : Bool) (x : ℕ) → ClassOf ℕ → ClassOf ℕ
class_by kind leaves enters x e = with_variables kind (moved_names leaves enters x (variables kind e)) e

abbrev pub class_after : Route → ClassOf ℕ → ClassOf ℕ
class_after route e = class_by (kind_of route.kind) (is_among route.leaves e.name e.superclass) (is_among route.enters e.name e.superclass) route.variable e

-- the image after the variable went its way, if there is one
abbrev pub image_after : Option Route → ImageOf ℕ → ImageOf ℕ
image_after o i = option_map_or (λ route. record i { classes = map (class_after route) i.classes }) o i

-- none leaves
all-stay : (x : ℕ) (ys : List ℕ) → filter (λ y. not (false && nat_eq x y)) ys ≡ ys
all-stay x [] = refl
all-stay x (y ∷ ys) = ap (λ (zs : List ℕ). y ∷ zs) (all-stay x ys)

-- a name that is not there does not leave
none-leaves : (x : ℕ) (ys : List ℕ) → list_any (nat_eq x) ys ≡ false → filter (λ y. not (nat_eq x y)) ys ≡ ys
none-leaves x [] h = refl
none-leaves x (y ∷ ys) h =
    let both = or_parts (nat_eq x y) (list_any (nat_eq x) ys) h in
    ap (λ (b : Bool). cond (not b) (y ∷ filter (λ z. not (nat_eq x z)) ys) (filter (λ z. not (nat_eq x z)) ys)) both.0 ∙ ap (λ (zs : List ℕ). y ∷ zs) (none-leaves x ys both.1)

module _ (k : means.VariableKind) (x : ℕ) (e : ClassOf ℕ) where
  -- a variable that neither leaves nor comes, one that comes, and one that leaves
  pub stays : e ≡ class_by k false false x e
  stays = same k ∙ sym (ap (λ (ys : List ℕ). with_variables k ys e) (append-nil (filter (λ y. not (false && nat_eq x y)) (variables k e)) ∙ all-stay x (variables k e)))
    where
      same : (l : means.VariableKind) → e ≡ with_variables l (variables l e) e
      same of_instance = refl
      same of_class_side = refl
      same of_class = refl

  pub comes : with_last k x e ≡ class_by k false true x e
  comes = sym (ap (λ (ys : List ℕ). with_variables k (ys ++ x ∷ []) e) (all-stay x (variables k e)))

  pub goes : without nat_eq k x e ≡ class_by k true false x e
  goes = sym (ap (λ (ys : List ℕ). with_variables k ys e) (append-nil (filter (λ y. not (nat_eq x y)) (variables k e))))

  -- the same as the effects of commands have it
  pub added : (b : Bool) → (if b then with_last k x e else e) ≡ class_by k false b x e
  added true = comes
  added false = stays

  pub removed : (b : Bool) → (if b then without nat_eq k x e else e) ≡ class_by k b false x e
  removed true = goes
  removed false = stays

  pub pushed-up : (b d : Bool) → (if b then with_last k x e else if d then without nat_eq k x e else e) ≡ class_by k (not b && d) b x e
  pushed-up true d = comes
  pushed-up false true = goes
  pushed-up false false = stays

  pub pushed-down : (b d : Bool) → (if b then without nat_eq k x e else if d then with_last k x e else e) ≡ class_by k b (not b && d) x e
  pushed-down true d = goes
  pushed-down false true = comes
  pushed-down false false = stays

-- a class variable that leaves one class, and then comes to another
pub moved-shared : (c d x : ℕ) (e : ClassOf ℕ) (b : Bool)
    → (if nat_eq d (if b then without nat_eq of_class x e else e).name then with_last of_class x (if b then without nat_eq of_class x e else e) else (if b then without nat_eq of_class x e else e)) ≡ class_by of_class b (nat_eq d e.name) x e
moved-shared c d x e true = by (nat_eq d e.name)
  where
    by : (b : Bool) → (if b then with_last of_class x (without nat_eq of_class x e) else without nat_eq of_class x e) ≡ class_by of_class true b x e
    by true = refl
    by false = goes of_class x e
moved-shared c d x e false = added of_class x e (nat_eq d e.name)

pub shared-image : (c d x : ℕ) (i : ImageOf ℕ)
    → shared_moved nat_eq c x d i ≡ record i { classes = map (λ (e : ClassOf ℕ). class_by of_class (nat_eq c e.name) (nat_eq d e.name) x e) i.classes }
shared-image c d x i =
    (λ j. record i { classes = map-map (λ (e : ClassOf ℕ). if nat_eq d e.name then with_last of_class x e else e) (λ (e : ClassOf ℕ). if nat_eq c e.name then without nat_eq of_class x e else e) i.classes j })
    ∙ (λ j. record i { classes = map (λ (e : ClassOf ℕ). moved-shared c d x e (nat_eq c e.name) j) i.classes })

module _ (s : Slots) (o : IsOrderly s) where
  -- the superclass of a live class is live
  pub above-is : (k : ℕ) (r : ClassRec) → IsLive s.class_order k → slice_get s.classes k ≡ Some r → name_above s r ≡ option_and_then (class_name s.classes) r.superclass
  above-is k r l e = by r.superclass (λ j h. o.superclasses_live j k r l e h)
    where
      by : (up : Option ℕ) → ((j : ℕ) → up ≡ Some j → IsLive s.class_order j)
          → option_and_then (λ j. option_map (λ (c : ClassRec). c.name) (live_at s.classes s.class_order j)) up ≡ option_and_then (class_name s.classes) up
      by None h = refl
      by (Some j) h = ap (option_map (λ (c : ClassRec). c.name)) (live_at-live s.classes s.class_order j (h j refl))

  -- the superclass of the class of a name is that in the image
  pub superclass-is : (c : ℕ) → superclass_name s c ≡ hierarchy.superclass_name nat_eq (number_image s) c
  superclass-is c = by (named_in s.classes s.class_order c) ∙ ap (option_and_then (λ (e : ClassOf ℕ). e.superclass)) (named-record s c)
    where
      held : (k : ℕ) (p : Option ClassRec) → live_at s.classes s.class_order k ≡ p → option_and_then (name_above s) p ≡ option_and_then (λ (e : ClassOf ℕ). e.superclass) (option_map (class_of s.classes) p)
      held k None e = refl
      held k (Some r) e = let at = live-live_at s.classes s.class_order k r e in above-is k r at.0 at.1

      by : (p : Option ℕ) → option_and_then (name_above s) (option_and_then (live_at s.classes s.class_order) p)
          ≡ option_and_then (λ (e : ClassOf ℕ). e.superclass) (option_map (class_of s.classes) (option_and_then (live_at s.classes s.class_order) p))
      by None = refl
      by (Some k) = held k (live_at s.classes s.class_order k) refl

  abbrev i : ImageOf ℕ
  i = number_image s

  abbrev made_by : VariableMove → ImageOf ℕ
  made_by m = effect (asked_by s.names) (number_writing s.names) (move_command m) i

  -- the command makes of the image what the way of the variable does
  pub effect-is : (m : VariableMove) → made_by m ≡ image_after (route_of s m) i
  effect-is (move.Add k c x) = by k
    where
      by : (l : VariableKind) → made_by (move.Add l c x) ≡ image_after (route_of s (move.Add l c x)) i
      by kind.Instance = λ j. record i { classes = map (λ (e : ClassOf ℕ). added of_instance x e (nat_eq c e.name) j) i.classes }
      by kind.ClassSide = λ j. record i { classes = map (λ (e : ClassOf ℕ). added of_class_side x e (nat_eq c e.name) j) i.classes }
      by kind.Shared = λ j. record i { classes = map (λ (e : ClassOf ℕ). added of_class x e (nat_eq c e.name) j) i.classes }
  effect-is (move.Remove k c x) = by k
    where
      by : (l : VariableKind) → made_by (move.Remove l c x) ≡ image_after (route_of s (move.Remove l c x)) i
      by kind.Instance = λ j. record i { classes = map (λ (e : ClassOf ℕ). removed of_instance x e (nat_eq c e.name) j) i.classes }
      by kind.ClassSide = λ j. record i { classes = map (λ (e : ClassOf ℕ). removed of_class_side x e (nat_eq c e.name) j) i.classes }
      by kind.Shared = λ j. record i { classes = map (λ (e : ClassOf ℕ). removed of_class x e (nat_eq c e.name) j) i.classes }
  effect-is (move.InstanceUp c x) = by (hierarchy.superclass_name nat_eq i c) ∙ ap (λ (p : Option ℕ). image_after (option_map way p) i) (sym (superclass-is c))
    where
      way : ℕ → Route
      way p = record { kind = kind.Instance; variable = x; leaves = classes.Below p; enters = classes.Named p }

      by : (p : Option ℕ) → option_map_or (λ (q : ℕ). record i { classes = map (class_pushed_up nat_eq q x) i.classes }) p i ≡ image_after (option_map way p) i
      by None = refl
      by (Some q) = λ j. record i { classes = map (λ (e : ClassOf ℕ). pushed-up of_instance x e (nat_eq q e.name) (is_child nat_eq q e) j) i.classes }
  effect-is (move.InstanceDown c x) = λ j. record i { classes = map (λ (e : ClassOf ℕ). pushed-down of_instance x e (nat_eq c e.name) (is_child nat_eq c e) j) i.classes }
  effect-is (move.SharedUp c x) = by (hierarchy.superclass_name nat_eq i c) ∙ ap (λ (p : Option ℕ). image_after (option_map way p) i) (sym (superclass-is c))
    where
      way : ℕ → Route
      way p = record { kind = kind.Shared; variable = x; leaves = classes.Named c; enters = classes.Named p }

      by : (p : Option ℕ) → option_map_or (λ (q : ℕ). shared_moved nat_eq c x q i) p i ≡ image_after (option_map way p) i
      by None = refl
      by (Some q) = shared-image c q x i
  effect-is (move.SharedDown c x d) = shared-image c d x i

  module _ (route : Route) where
    -- whether a class is one that the variable leaves, whether it defines the variable, and whether the variable comes to it
    abbrev leaves : ClassOf ℕ → Bool
    leaves e = is_among route.leaves e.name e.superclass

    abbrev has : ClassOf ℕ → Bool
    has e = list_any (nat_eq route.variable) (variables (kind_of route.kind) e)

    abbrev enters : ClassOf ℕ → Bool
    enters e = is_among route.enters e.name e.superclass

    -- the record that is given for a live class
    given-is : (k : ℕ) (r : ClassRec) → IsLive s.class_order k → slice_get s.classes k ≡ Some r
        → record_given s route k ≡ changed_record route (leaves (class_of s.classes r) && has (class_of s.classes r)) (enters (class_of s.classes r)) r
    given-is k r l e =
        ap (option_and_then (λ (q : ClassRec). changed_record route (leaves_class s route q) (enters_class s route q) q)) (live_at-live s.classes s.class_order k l ∙ e)
        ∙ ap (λ (up : Option ℕ). changed_record route (is_among route.leaves r.name up && has (class_of s.classes r)) (is_among route.enters r.name up) r) (above-is k r l e)

    -- what a record keeps
    same-by : {X : Type 0} (read : ClassRec → X) → ((l : VariableKind) (b d : Bool) (r : ClassRec) → read (with_moved l b d route.variable r) ≡ read r)
        → (b d : Bool) (r : ClassRec) → read (unwrap_or (changed_record route b d r) r) ≡ read r
    same-by read same true d r = same route.kind true d r
    same-by read same false true r = same route.kind false true r
    same-by read same false false r = refl

    same-name : (l : VariableKind) (b d : Bool) (r : ClassRec) → (with_moved l b d route.variable r).name ≡ r.name
    same-name kind.Instance b d r = refl
    same-name kind.ClassSide b d r = refl
    same-name kind.Shared b d r = refl

    same-above : (l : VariableKind) (b d : Bool) (r : ClassRec) → (with_moved l b d route.variable r).superclass ≡ r.superclass
    same-above kind.Instance b d r = refl
    same-above kind.ClassSide b d r = refl
    same-above kind.Shared b d r = refl

    pub keeps-places : KeepsPlaces s (record_given s route)
    keeps-places = record {
      name = λ k r l e. ap (λ (p : Option ClassRec). (unwrap_or p r).name) (given-is k r l e) ∙ same-by (λ (q : ClassRec). q.name) same-name (leaves (class_of s.classes r) && has (class_of s.classes r)) (enters (class_of s.classes r)) r;
      superclass = λ k r l e. ap (λ (p : Option ClassRec). (unwrap_or p r).superclass) (given-is k r l e) ∙ same-by (λ (q : ClassRec). q.superclass) same-above (leaves (class_of s.classes r) && has (class_of s.classes r)) (enters (class_of s.classes r)) r;
    }

    pub is-made : IsMade s (record_given s route) (class_after route)
    is-made k r l e =
        ap (λ (p : Option ClassRec). class_of s.classes (unwrap_or p r)) (given-is k r l e)
        ∙ by (leaves there && has there) (enters there)
        ∙ either (leaves there) (has there) (enters there) refl
      where
        there : ClassOf ℕ
        there = class_of s.classes r

        one : (m : VariableKind) (b d : Bool) → class_of s.classes (with_moved m b d route.variable r) ≡ class_by (kind_of m) b d route.variable (class_of s.classes r)
        one kind.Instance b d = refl
        one kind.ClassSide b d = refl
        one kind.Shared b d = refl

        by : (b d : Bool) → class_of s.classes (unwrap_or (changed_record route b d r) r) ≡ class_by (kind_of route.kind) b d route.variable (class_of s.classes r)
        by true d = one route.kind true d
        by false true = one route.kind false true
        by false false = stays (kind_of route.kind) route.variable (class_of s.classes r)

        -- a variable that the class does not define does not leave it
        either : (b h d : Bool) → has (class_of s.classes r) ≡ h → class_by (kind_of route.kind) (b && h) d route.variable (class_of s.classes r) ≡ class_by (kind_of route.kind) b d route.variable (class_of s.classes r)
        either true true d e = refl
        either true false d e =
            let names = variables (kind_of route.kind) (class_of s.classes r) in
            ap (λ (ys : List ℕ). with_variables (kind_of route.kind) (ys ++ (if d then route.variable ∷ [] else [])) (class_of s.classes r)) (all-stay route.variable names ∙ sym (none-leaves route.variable names e))
        either false h d e = refl

  -- the changes are a plan of the move
  pub is-plan : (m : VariableMove) (changes : List Change) (touched : List Place) → ImageNames (λ n. n < length s.names) (made_by m) → changes ≡ planned s m → touched ≡ [] → IsPlan s (move_command m) changes touched
  is-plan m changes touched known same none =
      subst (λ (cs : List Change). IsPlan s (move_command m) cs touched) (sym same) (
      subst (λ (ps : List Place). IsPlan s (move_command m) (planned s m) ps) (sym none) (
      by (route_of s m) (effect-is m)))
    where
      by : (p : Option Route) → made_by m ≡ image_after p i → IsPlan s (move_command m) (option_map_or (λ route. classes_written (record_given s route) s.class_order) p []) []
      by None e = record { can = tt; fit = tt; effect = sym e; names = refl; orderly = o; touched = λ p h. refl }
      by (Some route) e =
          let given = record_given s route in
          let keeps = keeps-places route in
          let is = written-image s given o keeps (class_after route) (is-made route) ∙ sym e in
          let there = subst (λ (x : ImageOf ℕ). ImageNames (λ n. n < length s.names) x) (sym is) known in
          record {
            can = written-can s given o keeps;
            fit = written-fit s given o keeps there;
            effect = is;
            names = written-names s given o keeps;
            orderly = written-orderly s given o keeps there;
            touched = written-touched s given o keeps;
          }

-- the shape of code stays
pub shape-kept : (m : VariableMove) → MovesNoCode (move_command m)
shape-kept (move.Add k c x) = by k
  where
    by : (l : VariableKind) → MovesNoCode (adds_variable (kind_of l) c x)
    by kind.Instance = tt
    by kind.ClassSide = tt
    by kind.Shared = tt
shape-kept (move.Remove k c x) = by k
  where
    by : (l : VariableKind) → MovesNoCode (removes_variable (kind_of l) c x)
    by kind.Instance = tt
    by kind.ClassSide = tt
    by kind.Shared = tt
shape-kept (move.InstanceUp c x) = tt
shape-kept (move.InstanceDown c x) = tt
shape-kept (move.SharedUp c x) = tt
shape-kept (move.SharedDown c x d) = tt
