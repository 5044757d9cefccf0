-- Where code runs on an object or a class: its class has the variables of the code's, and calls them the same after.
use Rattle.std.proofs.Common.{◌≡◌, ℕ, zero, suc, List, [], ◌∷◌, ◌++◌, Option, Some, None, refl, ◌∙◌, subst}
use Rattle.std.specs.Prelude.{Bool, true, false, slice_get, option_map, unwrap_or}
use Rattle.std.specs.List.{AllByRecursion}
use Rattle.image_model.specs.ImageNames.{OptionNames}
use Rattle.image_model.proofs.Lists.{all-implies, option-implies}
use Rattle.run_model.specs.Values.{Name, Value, nil_value, true_value, false_value, int_value, char_value, string_value, symbol_value, class_value, object_value, array_value, closure_value, transcript_value}
use Rattle.run_model.specs.Store.{Object, Heap}
use Rattle.run_model.specs.Views.{class_name_of, is_meta}
use Rattle.resolved_model.specs.ResolvedTrees.{ResolvedCode}
use Rattle.resolved_model.specs.ResolvedImages.{ResolvedMethod, ResolvedImage, finds, finds_above, class_of_doits}
use Rattle.resolved_model.specs.ResolvedActs.{ResolvedFrame, ResolvedClosure}
use Rattle.mapped_model.specs.NameMaps.{NameMaps}
use Rattle.mapped_model.specs.MappedImages.{class_or_none}
use Rattle.mapped_model.specs.OwnVariables.{OwnDoing}
use Rattle.mapped_model.proofs.Objects.{MayBe, Later}
use Rattle.mapped_model.proofs.OwnShapes.{OwnCode}

-- by which names are instance variables of a class, and which are class-instance variables in code of a class and side
module _ (f : NameMaps) (Instance : Name → Name → Type 0) (ClassSide : Name → Bool → Name → Type 0) where
  -- a class has the instance variables of another
  abbrev pub HasInstances : Name → Name → Type 0
  HasInstances d c = (n : Name) → Instance c n → Instance d n × (f.instance (c, n) ≡ f.instance (d, n))

  -- a class and side have the class-instance variables of others
  abbrev pub HasClassSides : Name → Bool → Name → Bool → Type 0
  HasClassSides d b c meta = (n : Name) → ClassSide c meta n → ClassSide d b n × (f.class_side (c, n) ≡ f.class_side (d, n))

  -- one after the other
  pub instances-on : (a b c : Name) → HasInstances a b → HasInstances b c → HasInstances a c
  instances-on a b c p q n t = ((p n (q n t).0).0, (q n t).1 ∙ (p n (q n t).0).1)

  pub class_sides-on : (a : Name) (x : Bool) (b : Name) (y : Bool) (c : Name) (z : Bool) → HasClassSides a x b y → HasClassSides b y c z → HasClassSides a x c z
  class_sides-on a x b y c z p q n t = ((p n (q n t).0).0, (q n t).1 ∙ (p n (q n t).0).1)

  -- a method that is found from a class on a side
  pub record Suits (d : Name) (meta : Bool) (m : ResolvedMethod) : Type 0 where
    pub side : meta ≡ false → m.meta ≡ false
    pub own : OwnDoing (Instance (class_or_none m.class)) (ClassSide (class_or_none m.class) m.meta) m.doing
    pub instances : meta ≡ false → HasInstances d (class_or_none m.class)
    pub class_sides : HasClassSides d meta (class_or_none m.class) m.meta

  -- each method that is found suits where it is sought, and do-its have no variables but those of their class
  pub record IsSuited (i : ResolvedImage) : Type 0 where
    pub found : (d : Name) (meta : Bool) (s : Name) → OptionNames (Suits d meta) (finds i (Some d) meta s)
    pub above : (c : Option Name) (meta : Bool) (s : Name) → OptionNames (Suits (class_or_none c) meta) (finds_above i c meta s)
    pub nowhere : (s : Name) → OptionNames (λ (m : ResolvedMethod). (d : Name) → HasInstances d (class_or_none m.class)) (finds i (Some []) false s)
    pub doits : AllByRecursion (OwnCode (Instance (class_or_none (class_of_doits i))) (ClassSide (class_or_none (class_of_doits i)) false)) i.doits

  -- code of a class and side runs on a value
  abbrev pub RunsOn : List Object → Name → Bool → Value → Type 0
  RunsOn os c meta (object_value k) = (meta ≡ false) × ((d : Name) → MayBe os k d → HasInstances d c)
  RunsOn os c meta (class_value d) = HasClassSides d true c meta
  RunsOn os c meta nil_value = Unit {0}
  RunsOn os c meta true_value = Unit {0}
  RunsOn os c meta false_value = Unit {0}
  RunsOn os c meta (int_value z) = Unit {0}
  RunsOn os c meta (char_value b) = Unit {0}
  RunsOn os c meta (string_value t) = Unit {0}
  RunsOn os c meta (symbol_value t) = Unit {0}
  RunsOn os c meta (array_value k) = Unit {0}
  RunsOn os c meta (closure_value k) = Unit {0}
  RunsOn os c meta transcript_value = Unit {0}

  -- also later
  pub runs_on-later : (a b : List Object) → Later a b → (c : Name) (meta : Bool) (v : Value) → RunsOn a c meta v → RunsOn b c meta v
  runs_on-later a b p c meta (object_value k) h = (h.0, λ d t. h.1 d (p k d t))
  runs_on-later a b p c meta (class_value d) h = h
  runs_on-later a b p c meta nil_value h = tt
  runs_on-later a b p c meta true_value h = tt
  runs_on-later a b p c meta false_value h = tt
  runs_on-later a b p c meta (int_value z) h = tt
  runs_on-later a b p c meta (char_value x) h = tt
  runs_on-later a b p c meta (string_value t) h = tt
  runs_on-later a b p c meta (symbol_value t) h = tt
  runs_on-later a b p c meta (array_value k) h = tt
  runs_on-later a b p c meta (closure_value k) h = tt
  runs_on-later a b p c meta transcript_value h = tt

  -- a frame
  abbrev pub Stands : List Object → ResolvedFrame → Type 0
  Stands os x = RunsOn os (class_or_none x.home.class) x.home.meta x.me

  -- code has no variables but those of a frame's class
  abbrev pub OwnIn : ResolvedFrame → ResolvedCode → Type 0
  OwnIn x c = OwnCode (Instance (class_or_none x.home.class)) (ClassSide (class_or_none x.home.class) x.home.meta) c

  -- a closure
  abbrev pub StandsClosure : List Object → ResolvedClosure → Type 0
  StandsClosure os c = Stands os c.frame × OwnIn c.frame c.code

  -- closures
  abbrev pub StandEach : List Object → List ResolvedClosure → Type 0
  StandEach os cs = AllByRecursion (StandsClosure os) cs

  -- also later
  pub stand-later : (a b : List Object) → Later a b → (cs : List ResolvedClosure) → StandEach a cs → StandEach b cs
  stand-later a b p cs h = all-implies (StandsClosure a) (StandsClosure b) (λ c t. (runs_on-later a b p (class_or_none c.frame.home.class) c.frame.home.meta c.frame.me t.0, t.1)) cs h

  -- one more closure
  pub stand-more : (os : List Object) (cs : List ResolvedClosure) (c : ResolvedClosure) → StandEach os cs → StandsClosure os c → StandEach os (cs ++ c ∷ [])
  stand-more os [] c h k = (k, tt)
  stand-more os (x ∷ cs) c h k = (h.0, stand-more os cs c h.1 k)

  -- the closure of a number
  pub stand-each : (os : List Object) (cs : List ResolvedClosure) (k : ℕ) → StandEach os cs → OptionNames (StandsClosure os) (slice_get cs k)
  stand-each os [] k h = tt
  stand-each os (c ∷ cs) zero h = h.0
  stand-each os (c ∷ cs) (suc k) h = stand-each os cs k h.1

  module _ (i : ResolvedImage) (suited : IsSuited i) where
    -- a method that runs on a value
    abbrev pub SuitsOn : List Object → Value → ResolvedMethod → Type 0
    SuitsOn os v m = RunsOn os (class_or_none m.class) m.meta v × OwnDoing (Instance (class_or_none m.class)) (ClassSide (class_or_none m.class) m.meta) m.doing

    -- on an object that there may be
    object-suits : (os : List Object) (k : ℕ) (s : Name) (o : Option Object) → ((d : Name) → MayBe os k d → OptionNames (λ (x : Object). x.class ≡ d) o) → OptionNames (SuitsOn os (object_value k)) (finds i (Some (unwrap_or (option_map (λ (x : Object). x.class) o) [])) false s)
    object-suits os k s (Some x) e =
        option-implies (Suits x.class false) (SuitsOn os (object_value k))
        (λ m t. ((t.side refl, λ d may. subst (λ c. HasInstances c (class_or_none m.class)) (e d may) (t.instances refl)), t.own))
        (finds i (Some x.class) false s) (suited.found x.class false s)
    object-suits os k s None e = both (finds i (Some []) false s) (suited.found [] false s) (suited.nowhere s)
      where
        both : (o : Option ResolvedMethod) → OptionNames (Suits [] false) o → OptionNames (λ (m : ResolvedMethod). (d : Name) → HasInstances d (class_or_none m.class)) o → OptionNames (SuitsOn os (object_value k)) o
        both (Some m) t u = ((t.side refl, λ d may. u d), t.own)
        both None t u = tt

    -- on a value that is neither an object nor a class
    abbrev OnPlain : Value → Type 0
    OnPlain v = (os : List Object) (d s : Name) → ((m : ResolvedMethod) → RunsOn os (class_or_none m.class) m.meta v) → OptionNames (SuitsOn os v) (finds i (Some d) false s)

    plain-suits : (v : Value) → OnPlain v
    plain-suits v os d s h = option-implies (Suits d false) (SuitsOn os v) (λ m t. (h m, t.own)) (finds i (Some d) false s) (suited.found d false s)

    -- a method that is found for a message to a value
    pub found-suits : (h : Heap) (v : Value) (s : Name) → OptionNames (SuitsOn h.objects v) (finds i (Some (class_name_of h v)) (is_meta v) s)
    found-suits h (object_value k) s = object-suits h.objects k s (slice_get h.objects k) (λ d t. t)
    found-suits h (class_value d) s = option-implies (Suits d true) (SuitsOn h.objects (class_value d)) (λ m t. (t.class_sides, t.own)) (finds i (Some d) true s) (suited.found d true s)
    found-suits h nil_value s = plain-suits nil_value h.objects (class_name_of h nil_value) s (λ m. tt)
    found-suits h true_value s = plain-suits true_value h.objects (class_name_of h true_value) s (λ m. tt)
    found-suits h false_value s = plain-suits false_value h.objects (class_name_of h false_value) s (λ m. tt)
    found-suits h (int_value z) s = plain-suits (int_value z) h.objects (class_name_of h (int_value z)) s (λ m. tt)
    found-suits h (char_value b) s = plain-suits (char_value b) h.objects (class_name_of h (char_value b)) s (λ m. tt)
    found-suits h (string_value t) s = plain-suits (string_value t) h.objects (class_name_of h (string_value t)) s (λ m. tt)
    found-suits h (symbol_value t) s = plain-suits (symbol_value t) h.objects (class_name_of h (symbol_value t)) s (λ m. tt)
    found-suits h (array_value k) s = plain-suits (array_value k) h.objects (class_name_of h (array_value k)) s (λ m. tt)
    found-suits h (closure_value k) s = plain-suits (closure_value k) h.objects (class_name_of h (closure_value k)) s (λ m. tt)
    found-suits h transcript_value s = plain-suits transcript_value h.objects (class_name_of h transcript_value) s (λ m. tt)

    -- a method that is found for a message to `super`
    above-one : (os : List Object) (x : ResolvedFrame) (v : Value) (m : ResolvedMethod) → RunsOn os (class_or_none x.home.class) x.home.meta v → Suits (class_or_none x.home.class) x.home.meta m → SuitsOn os v m
    above-one os x (object_value k) m h t = ((t.side h.0, λ d may. instances-on d (class_or_none x.home.class) (class_or_none m.class) (h.1 d may) (t.instances h.0)), t.own)
    above-one os x (class_value d) m h t = (class_sides-on d true (class_or_none x.home.class) x.home.meta (class_or_none m.class) m.meta h t.class_sides, t.own)
    above-one os x nil_value m h t = (tt, t.own)
    above-one os x true_value m h t = (tt, t.own)
    above-one os x false_value m h t = (tt, t.own)
    above-one os x (int_value z) m h t = (tt, t.own)
    above-one os x (char_value b) m h t = (tt, t.own)
    above-one os x (string_value u) m h t = (tt, t.own)
    above-one os x (symbol_value u) m h t = (tt, t.own)
    above-one os x (array_value k) m h t = (tt, t.own)
    above-one os x (closure_value k) m h t = (tt, t.own)
    above-one os x transcript_value m h t = (tt, t.own)

    pub above-suits : (os : List Object) (x : ResolvedFrame) (v : Value) (s : Name) → RunsOn os (class_or_none x.home.class) x.home.meta v → OptionNames (SuitsOn os v) (finds_above i x.home.class x.home.meta s)
    above-suits os x v s h =
        option-implies (Suits (class_or_none x.home.class) x.home.meta) (SuitsOn os v) (λ m t. above-one os x v m h t)
        (finds_above i x.home.class x.home.meta s) (suited.above x.home.class x.home.meta s)
