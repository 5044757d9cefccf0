-- A class variable that another class defines after: the classes, and the names of variables.
use Rattle.std.proofs.Common.{◌≡◌, List, ◌∷◌, Option, Some, refl, sym, ap, ◌∙◌, subst}
use Rattle.std.specs.Prelude.{Bool, true, false, cond, ◌&&◌, if◌then◌else◌, map, find, is_some}
use Rattle.std.specs.List.{AllByRecursion, list_any}
use Rattle.std.proofs.lemmas.Simd.{map-map}
use Rattle.rb_base.specs.Names.{text_eq}
use Rattle.image_model.specs.Image.{ClassOf, ImageOf}
use Rattle.image_model.specs.Chain.{chain}
use Rattle.image_model.specs.Means.{of_class, variables, definer, side_kind}
use Rattle.image_model.proofs.Lists.{all-implies, all-both}
use Rattle.run_model.specs.Values.{Name}
use Rattle.run_model.specs.Renamings.{OfClass}
use Rattle.run_model.proofs.RenamingLemmas.{text-same}
use Rattle.command_model.specs.VariableEffects.{with_last, without, shared_moved}
use Rattle.std.proofs.lemmas.Bool.{false≢true}
use Rattle.rename_laws.proofs.TextsTold.{text-turned}
use Rattle.rename_laws.proofs.Unnamed.{each-fails}
use Rattle.rename_laws.proofs.ChainFacts.{is_on}
use Rattle.variable_laws.proofs.NamesPut.{put_last, put-others, put-there, left_out, left-others, left-gone}
use Rattle.variable_laws.proofs.ClassesChanged.{with-own, defining, with_list, ConcernsVariable, concerns-list, concerns-none, concerns-either, concerns-both}
use Rattle.variable_laws.proofs.Alike.{SharedAlike, Alike}
use Rattle.variable_laws.proofs.Definers.{side-kind, other-alike, apart-alike, alike-if}
use Rattle.variable_laws.proofs.Swapped.{swapped, swapped-other}

-- not both
pub and-no : (a b : Bool) → b ≡ false → (a && b) ≡ false
and-no true b e = e
and-no false b e = refl

module _ (c d x : Name) (apart : text_eq c d ≡ false) (i : ImageOf Name) where
  -- a class that loses the variable, and one that gains it
  abbrev loses : ClassOf Name → ClassOf Name
  loses e = if text_eq c e.name then without text_eq of_class x e else e

  abbrev gains : ClassOf Name → ClassOf Name
  gains e = if text_eq d e.name then with_last of_class x e else e

  abbrev pub moved : ClassOf Name → ClassOf Name
  moved e = gains (loses e)

  concerns-loses : ConcernsVariable of_class x loses
  concerns-loses = concerns-either of_class x (λ e. text_eq c e.name) (with_list of_class x (left_out x)) (λ e. e) (concerns-list of_class x (left_out x) (left-others x)) (concerns-none of_class x)

  pub concerns : ConcernsVariable of_class x moved
  concerns =
      concerns-both of_class x loses gains concerns-loses
      (concerns-either of_class x (λ e. text_eq d e.name) (with_list of_class x (put_last x)) (λ e. e) (concerns-list of_class x (put_last x) (put-others x)) (concerns-none of_class x))

  -- class variables are called so
  abbrev pub maps : OfClass → OfClass
  maps = swapped (c, x) (d, x)

  abbrev pub AlikeHere : Option Name → Bool → Name → Type 0
  AlikeHere o meta n = Alike maps i moved concerns.hierarchy o meta n

  -- a class loses nothing else
  loses-name : (e : ClassOf Name) → text_eq d (loses e).name ≡ text_eq d e.name
  loses-name e = ap (text_eq d) (concerns-loses.hierarchy e).name

  -- another class stays
  pub class-apart : (e : ClassOf Name) → (text_eq c e.name ≡ false) × (text_eq d e.name ≡ false) → moved e ≡ e
  class-apart e h =
      ap (λ b. if b then with_last of_class x (loses e) else loses e) (loses-name e ∙ h.1) ∙ ap (λ b. if b then without text_eq of_class x e else e) h.0

  -- the class loses the variable
  pub class-loses : (e : ClassOf Name) → text_eq c e.name ≡ true → defining of_class x (moved e) ≡ false
  class-loses e h =
      let other : text_eq d e.name ≡ false = ap (text_eq d) (sym (text-same c e.name h)) ∙ text-turned d c ∙ apart in
      ap (λ b. defining of_class x (if b then with_last of_class x (loses e) else loses e)) (loses-name e ∙ other)
      ∙ ap (λ b. defining of_class x (if b then without text_eq of_class x e else e)) h
      ∙ ap (list_any (text_eq x)) (with-own of_class (left_out x (variables of_class e)) e)
      ∙ left-gone x (variables of_class e)

  -- and the other one gains it
  pub class-gains : (e : ClassOf Name) → text_eq d e.name ≡ true → defining of_class x (moved e) ≡ true
  class-gains e h =
      ap (λ b. defining of_class x (if b then with_last of_class x (loses e) else loses e)) (loses-name e ∙ h)
      ∙ ap (list_any (text_eq x)) (with-own of_class (put_last x (variables of_class (loses e))) (loses e))
      ∙ put-there x (variables of_class (loses e))

  -- variables of other classes are called as before
  pub name-fixed : (n : Name) (e : ClassOf Name) → (text_eq c e.name ≡ false) × (text_eq d e.name ≡ false) → (e.name, n) ≡ maps (e.name, n)
  name-fixed n e h = sym (swapped-other (c, x) (d, x) (e.name, n) (ap (λ b. b && text_eq x n) h.0) (ap (λ b. b && text_eq x n) h.1))

  -- and so are variables of other names
  pub other-fixed : (e n : Name) → text_eq x n ≡ false → (e, n) ≡ maps (e, n)
  other-fixed e n h = sym (swapped-other (c, x) (d, x) (e, n) (and-no (text_eq c e) (text_eq x n) h) (and-no (text_eq d e) (text_eq x n) h))

  -- neither class stands on a chain
  abbrev Apart : ClassOf Name → Type 0
  Apart e = (text_eq c e.name ≡ false) × (text_eq d e.name ≡ false)

  pub all-apart : (cs : List (ClassOf Name)) → is_on c cs ≡ false → is_on d cs ≡ false → AllByRecursion Apart cs
  all-apart cs p q = all-both (λ (e : ClassOf Name). text_eq c e.name ≡ false) (λ e. text_eq d e.name ≡ false) cs (each-fails (λ (e : ClassOf Name). text_eq c e.name) cs p) (each-fails (λ (e : ClassOf Name). text_eq d e.name) cs q)

  -- names are alike there
  pub off-alike : (o : Option Name) (meta : Bool) (n : Name) → is_on c (chain text_eq i.classes o) ≡ false → is_on d (chain text_eq i.classes o) ≡ false → AlikeHere o meta n
  off-alike o meta n p q =
      apart-alike of_class x moved concerns maps i o meta n (all-implies Apart _ class-apart (chain text_eq i.classes o) (all-apart (chain text_eq i.classes o) p q))
      (all-implies Apart _ (name-fixed n) (chain text_eq i.classes o) (all-apart (chain text_eq i.classes o) p q))

  -- the name is, where its definers are
  pub found-alike : (o : Option Name) (meta : Bool) → (is_some (definer text_eq (side_kind meta) (chain text_eq i.classes o) x) ≡ false → SharedAlike maps x (definer text_eq of_class (chain text_eq i.classes o) x) (definer text_eq of_class (map moved (chain text_eq i.classes o)) x)) → AlikeHere o meta x
  found-alike o meta h =
      alike-if of_class x moved concerns maps i o meta (λ t. absurd (false≢true (sym (side-kind of_class meta refl) ∙ t))) (λ t. absurd (false≢true (sym t))) (λ t none. h none)

  -- any other name
  pub others-alike : (o : Option Name) (meta : Bool) (n : Name) → text_eq x n ≡ false → AlikeHere o meta n
  others-alike = other-alike of_class x moved concerns maps i other-fixed

  -- a class that is neither of the two is passed by, or found, before and after
  pub passed-by : (e : ClassOf Name) (es : List (ClassOf Name)) → Apart e → SharedAlike maps x (find (defining of_class x) es) (find (defining of_class x) (map moved es)) → SharedAlike maps x (find (defining of_class x) (e ∷ es)) (find (defining of_class x) (map moved (e ∷ es)))
  passed-by e es h rest = by (defining of_class x e) refl
    where
      after : Bool → Option (ClassOf Name)
      after z = cond z (Some (moved e)) (find (defining of_class x) (map moved es))

      by : (b : Bool) → defining of_class x e ≡ b → SharedAlike maps x (cond b (Some e) (find (defining of_class x) es)) (after (defining of_class x (moved e)))
      by true q = subst (λ z. SharedAlike maps x (Some e) (after z)) (sym (ap (defining of_class x) (class-apart e h) ∙ q)) (ap (λ (z : ClassOf Name). (z.name, x)) (class-apart e h) ∙ name-fixed x e h)
      by false q = subst (λ z. SharedAlike maps x (find (defining of_class x) es) (after z)) (sym (ap (defining of_class x) (class-apart e h) ∙ q)) rest

  -- the image after
  pub moved-image : shared_moved text_eq c x d i ≡ record i { classes = map moved i.classes }
  moved-image = ap (λ (cs : List (ClassOf Name)). record i { classes = cs }) (map-map gains loses i.classes)
