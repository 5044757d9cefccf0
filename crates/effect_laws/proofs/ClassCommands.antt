-- Valid classes to which one comes, or from which one goes.
use Rattle.std.proofs.Common.{◌≡◌, ◌⊎◌, inl, inr, Bool, true, false, not, cond, List, [], ◌∷◌, Option, Some, None, refl, sym, ap, subst, ◌∙◌, true≢false}
use Rattle.std.specs.Prelude.{filter}
use Rattle.std.specs.Option.{option_map_or}
use Rattle.std.proofs.lemmas.Bool.{not-true}
use Rattle.rb_base.specs.Names.{text_eq}
use Rattle.rb_base.proofs.NamesLemmas.{text_eq-refl}
use Rattle.image_model.specs.Image.{ClassOf, EntryOf, ImageOf}
use Rattle.image_model.specs.ImageNames.{OptionNames}
use Rattle.image_model.specs.Valid.{class_names, signature}
use Rattle.file_model.specs.Filing.{Text}
use Rattle.file_laws.specs.Fronts.{class_of_kernel, method_of_kernel}
use Rattle.command_model.specs.ClassEffects.{put_before, class_removed}
use Rattle.command_model.specs.Hierarchy.{is_method_of}
use Rattle.command_model.proofs.OrdersAfter.{removed-before}
use Rattle.effect_laws.proofs.Items.{in_all, In, Once, in_map, map_in, filter_in, in_filter}
use Rattle.effect_laws.proofs.Above.{IsAbove, Next, Further}
use Rattle.effect_laws.proofs.Fronts.{put_in, behind_filter}
use Rattle.effect_laws.proofs.Sound.{HasHome, IsSound}
use Rattle.effect_laws.proofs.Tests.{told_apart, HasName}
use Rattle.effect_laws.proofs.Kernel.{IsWhole, user_name}
use Rattle.effect_laws.proofs.MethodCommands.{once_fewer}

-- what stands above a class among fewer classes stands above it among more
pub above_fewer : (cs ds : List (ClassOf Text)) → ((e : ClassOf Text) → In ds e → In cs e) → (a e : ClassOf Text) → IsAbove ds a e → IsAbove cs a e
above_fewer cs ds more a e (Next q h) = Next q (more a h)
above_fewer cs ds more a e (Further {b = b} q h rest) = Further q (more b h) (above_fewer cs ds more a b rest)

-- a class of the user goes with its methods, where no class is under it
module _ (kernel i : ImageOf Text) (s : IsSound kernel i) (whole : IsWhole kernel) (c : Text) (f : ClassOf Text) (is : HasName i.classes c f) (user : f.kernel ≡ false) (free : (e : ClassOf Text) → In i.classes e → e.superclass ≡ Some c → ⊥) where
  abbrev stays : ClassOf Text → Bool
  stays e = not (text_eq c e.name)

  abbrev remains : EntryOf Text → Bool
  remains m = not (is_method_of text_eq c m)

  fewer : (e : ClassOf Text) → In (filter stays i.classes) e → In i.classes e
  fewer e h = (filter_in stays i.classes e h).0

  kept : (e : ClassOf Text) → In kernel.classes e → stays e ≡ true
  kept e h = ap not (told_apart c e.name (λ q. user_name kernel i.classes s.classes c f is user (subst (In (class_names kernel.classes)) (sym q) (in_map (λ (d : ClassOf Text). d.name) kernel.classes e h))))

  -- a name other than that of the class stays
  name_stays : (n : Text) → In (class_names i.classes) n → (c ≡ n → ⊥) → In (class_names (filter stays i.classes)) n
  name_stays n h d =
      let r = map_in (λ (e : ClassOf Text). e.name) i.classes n h in
      subst (In (class_names (filter stays i.classes))) r.2
      (in_map (λ (e : ClassOf Text). e.name) (filter stays i.classes) r.0 (in_filter stays i.classes r.0 r.1 (ap not (told_apart c r.0.name (λ q. d (q ∙ r.2))))))

  -- a method of the class
  its : (m : EntryOf Text) (n : Text) → m.class ≡ Some n → is_method_of text_eq c m ≡ false → c ≡ n → ⊥
  its m n q e same = true≢false (sym (text_eq-refl c) ∙ ap (text_eq c) same ∙ sym (ap (λ o. option_map_or (text_eq c) o false) q) ∙ e)

  -- no class is under it
  elsewhere : (e : ClassOf Text) → In i.classes e → OptionNames (λ n. text_eq c n ≡ false) e.superclass
  elsewhere e h = by e.superclass refl
    where
      by : (o : Option Text) → e.superclass ≡ o → OptionNames (λ n. text_eq c n ≡ false) o
      by None q = tt
      by (Some n) q = told_apart c n (λ same. free e h (q ∙ ap Some (sym same)))

  pub class_removed_sound : IsSound kernel (class_removed text_eq c i)
  class_removed_sound = record {
    classes = record {
      distinct = once_fewer (λ (e : ClassOf Text). e.name) stays i.classes s.classes.distinct;
      before = removed-before c i.classes (in_all (λ (e : ClassOf Text). OptionNames (λ n. text_eq c n ≡ false) e.superclass) i.classes elsewhere) s.classes.before;
      rooted = λ e h. s.classes.rooted e (fewer e h);
      named = λ e h. s.classes.named e (fewer e h);
      own = λ kind e h. s.classes.own kind e (fewer e h);
      apart = λ kind t e a h up. s.classes.apart kind t e a (fewer e h) (above_fewer i.classes (filter stays i.classes) fewer a e up);
      behind = behind_filter class_of_kernel kernel.classes i.classes s.classes.behind stays kept;
    };
    methods = record {
      once = once_fewer signature remains i.methods s.methods.once;
      homes = λ m h. (let r = filter_in remains i.methods m h in let n = s.methods.homes m r.0 in (n.0, n.1, name_stays n.0 n.2 (its m n.0 n.1 (not-true (is_method_of text_eq c m) r.1))));
      spelled = λ m h. s.methods.spelled m (filter_in remains i.methods m h).0;
      behind = behind_filter method_of_kernel kernel.methods i.methods s.methods.behind remains (λ m h. ap not (foreign m (whole.homes m h)));
    };
    doits = s.doits;
  }
    where
      foreign : (m : EntryOf Text) → HasHome (class_names kernel.classes) m → is_method_of text_eq c m ≡ false
      foreign m r = ap (λ o. option_map_or (text_eq c) o false) r.1 ∙ told_apart c r.0 (λ q. user_name kernel i.classes s.classes c f is user (subst (In (class_names kernel.classes)) (sym q) r.2))

-- a list of names into which one is put
pub once_put : (passes : ClassOf Text → Bool) (x : ClassOf Text) (cs : List (ClassOf Text)) → Once (class_names cs) → (In (class_names cs) x.name → ⊥) → Once (class_names (put_before passes x cs))
once_put passes x [] o new = ((λ h. h), tt)
once_put passes x (e ∷ cs) o new = by (passes e) (once_put passes x cs o.1 (λ h. new (inr h)))
  where
    apart : (d : ClassOf Text) → (x ≡ d) ⊎ In cs d → d.name ≡ e.name → ⊥
    apart d (inl q) r = new (inl (sym r ∙ ap (λ (b : ClassOf Text). b.name) (sym q)))
    apart d (inr h) r = o.0 (subst (In (class_names cs)) r (in_map (λ (b : ClassOf Text). b.name) cs d h))

    by : (b : Bool) → Once (class_names (put_before passes x cs)) → Once (class_names (cond b (x ∷ e ∷ cs) (e ∷ put_before passes x cs)))
    by true rest = (new, o)
    by false rest = ((λ h. (let r = map_in (λ (b : ClassOf Text). b.name) (put_before passes x cs) e.name h in apart r.0 (put_in passes x cs r.0 r.1) r.2)), rest)

-- the class that is put in, and each other one
pub put_there : (passes : ClassOf Text → Bool) (x : ClassOf Text) (cs : List (ClassOf Text)) → In (put_before passes x cs) x
put_there passes x [] = inl refl
put_there passes x (e ∷ cs) = by (passes e) (put_there passes x cs)
  where
    by : (b : Bool) → In (put_before passes x cs) x → In (cond b (x ∷ e ∷ cs) (e ∷ put_before passes x cs)) x
    by true rest = inl refl
    by false rest = inr rest

pub others_there : (passes : ClassOf Text → Bool) (x : ClassOf Text) (cs : List (ClassOf Text)) (d : ClassOf Text) → In cs d → In (put_before passes x cs) d
others_there passes x [] d h = absurd h
others_there passes x (e ∷ cs) d h = by (passes e) h (others_there passes x cs d)
  where
    by : (b : Bool) → In (e ∷ cs) d → (In cs d → In (put_before passes x cs) d) → In (cond b (x ∷ e ∷ cs) (e ∷ put_before passes x cs)) d
    by true k rest = inr k
    by false (inl q) rest = inl q
    by false (inr k) rest = inr (rest k)
