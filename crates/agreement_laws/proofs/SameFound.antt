-- Two images in which the same is found, as methods are told to be the same, have the same runs.
use Rattle.std.proofs.Common.{◌≡◌, ℕ, [], Option, Some, None, ◌⊎◌, inl, inr, refl, sym, ap, subst}
use Rattle.std.specs.Prelude.{Bool, true, false, slice_get}
use Rattle.std.specs.List.{AllByRecursion}
use Rattle.std.specs.Option.{option_or}
use Rattle.image_model.specs.Image.{EntryOf, DoItOf, ImageOf}
use Rattle.image_model.specs.ImageNames.{OptionNames}
use Rattle.image_model.specs.Words.{text_words}
use Rattle.image_model.specs.Lookup.{lookup, super_lookup}
use Rattle.run_model.specs.Values.{Name}
use Rattle.run_model.specs.ObjectPrimitives.{value_classes}
use Rattle.run_model.specs.Runs.{run, doit_class}
use Rattle.run_model.specs.Renamings.{no_renaming}
use Rattle.run_model.specs.Matched.{AreMatched}
use Rattle.resolved_model.specs.Resolving.{meant_in, meant_in_doit}
use Rattle.resolved_model.specs.ResolvedImages.{by_code, doing_of, resolved_entry, resolved_image}
use Rattle.command_model.specs.SameMethods.{is_same_method}
use Rattle.lookup_model.specs.AgreeingLookups.{AgreeOn}
use Rattle.lookup_model.proofs.AgreeingRuns.{same-runs, matched-runs-agreeing}
use Rattle.agreement_laws.proofs.EntriesAgree.{AreBoth, PairOf, method-same, doits-equal, kinds-equal, entries-agree}
use Rattle.agreement_laws.proofs.MethodsFound.{IsIn}
use Rattle.agreement_laws.proofs.SameMethods.{doing-same}
use Rattle.agreement_laws.specs.Reaching.{is_super, SendsAbove}
use Rattle.agreement_laws.proofs.CodeKnown.{ReadsClass, AnySelector, doing-known, doit-known}
use Rattle.agreement_laws.proofs.SameAbove.{supers-same}

module _ (i j : ImageOf Name) where
  -- a method of i, and the same one or one that is told to be the same
  abbrev pub IsSame : EntryOf Name → EntryOf Name → Type 0
  IsSame m n = IsIn i m × ((m ≡ n) ⊎ (is_same_method text_words is_super i j m n ≡ true))

  -- what is found in i alone
  pub same-both : (o : Option (EntryOf Name)) → OptionNames (IsIn i) o → AreBoth IsSame o o
  same-both (Some m) h = (h, inl refl)
  same-both None h = tt

  -- the second of two, where the first is the same
  pub or-both : (o p q : Option (EntryOf Name)) → OptionNames (IsIn i) o → AreBoth IsSame p q → AreBoth IsSame (option_or o p) (option_or o q)
  or-both (Some m) p q h k = (h, inl refl)
  or-both None p q h k = k

  module _ (classes : j.classes ≡ i.classes) (doits : j.doits ≡ i.doits) (Class : Name → Type 0) (nothing : Class []) (kernel : AllByRecursion Class value_classes)
      (find_same : (c : Name) (b : Bool) (t : Name) → Class c → AreBoth IsSame (lookup text_words i (Some c) b t) (lookup text_words j (Some c) b t))
      (above_same : (m : EntryOf Name) (t : Name) → IsIn i m → SendsAbove m.tree.body t → AreBoth IsSame (super_lookup text_words i m.class m.meta t) (super_lookup text_words j m.class m.meta t))
      (doits_above : (t : Name) → AreBoth IsSame (super_lookup text_words i (doit_class i) false t) (super_lookup text_words j (doit_class i) false t))
      (reads : (m : EntryOf Name) (c : Name) → IsIn i m → ReadsClass (meant_in i m) m.tree.body c → Class c)
      (doits_read : (k : ℕ) (d : DoItOf Name) (c : Name) → slice_get i.doits k ≡ Some d → ReadsClass (meant_in_doit i d) d.body c → Class c) where
    -- methods that are the same do the same
    one-doing : (m : EntryOf Name) (p : Option ℕ) → doing_of j m p ≡ doing_of i m p
    one-doing m (Some n) = refl
    one-doing m None = ap by_code (method-same i j classes m)

    do-same : (m n : EntryOf Name) → IsSame m n → (resolved_entry j n).doing ≡ (resolved_entry i m).doing
    do-same m n (at, inl e) = subst (λ x. (resolved_entry j x).doing ≡ (resolved_entry i m).doing) e (one-doing m m.tree.primitive)
    do-same m n (at, inr e) = doing-same i j m n e

    -- methods that are the same find the same above
    supers : (m n : EntryOf Name) → IsSame m n → (t : Name) → SendsAbove m.tree.body t → AreBoth IsSame (super_lookup text_words i m.class m.meta t) (super_lookup text_words j n.class n.meta t)
    supers m n (at, inl e) t sends = subst (λ x. AreBoth IsSame (super_lookup text_words i m.class m.meta t) (super_lookup text_words j x.class x.meta t)) e (above_same m t at sends)
    supers m n (at, inr e) t sends = supers-same i j (AreBoth IsSame) m n e t sends (above_same m t at sends)

    doit-classes : doit_class j ≡ doit_class i
    doit-classes = ap (λ cs. doit_class (record i { classes = cs })) classes

    found-agree : AgreeOn Class AnySelector (PairOf i j Class AnySelector IsSame) (resolved_image i) (resolved_image j)
    found-agree =
        entries-agree i j Class AnySelector IsSame (doits-equal i j classes doits) (λ c d p q. kinds-equal i j classes c d) nothing kernel (λ c b t p q. find_same c b t p) do-same
        (λ m n h Above k. doing-known Class AnySelector Above i m (λ c r. reads m c h.0 r) (λ t sends. tt) (λ t sends. k t (supers m n h t sends)) m.tree.primitive)
        (λ k d at Above h. doit-known Class AnySelector Above i d (λ c r. doits_read k d c at r) (λ t sends. tt)
        (λ t sends. h t (subst (λ c. AreBoth IsSame (super_lookup text_words i (doit_class i) false t) (super_lookup text_words j c false t)) (sym doit-classes) (doits_above t))))

    pub found-runs : (n : ℕ) → run j n ≡ run i n
    found-runs n = same-runs Class AnySelector (PairOf i j Class AnySelector IsSame) i j found-agree n

    pub found-matched : AreMatched i j no_renaming
    found-matched = matched-runs-agreeing Class AnySelector (PairOf i j Class AnySelector IsSame) i j found-agree
