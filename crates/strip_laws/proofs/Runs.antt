-- An image without what is not reached has the same runs.
use Rattle.std.proofs.Common.{◌≡◌, ℕ, zero, suc, List, [], ◌∷◌, ◌++◌, Option, Some, None, ◌⊎◌, inl, inr, refl, sym, ap, ◌∙◌, subst}
use Rattle.std.specs.Prelude.{Bool, true, false, ◌||◌, slice_get, Contains, IsTrue}
use Rattle.std.specs.List.{AllByRecursion, list_any}
use Rattle.std.proofs.lemmas.Bool.{false≢true}
use Rattle.std.proofs.lemmas.List.Elements.{All-contains, All-from_recursion, Contains-append_left, Contains-append_right, Contains-append_cases}
use Rattle.rb_base.specs.Names.{text_eq}
use Rattle.rb_base.proofs.NamesLemmas.{text_eq-refl}
use Rattle.tree_model.specs.Tree.{var, send}
use Rattle.image_model.specs.Image.{ClassOf, EntryOf, DoItOf, ImageOf}
use Rattle.image_model.specs.ImageNames.{OptionNames}
use Rattle.image_model.specs.Words.{text_words}
use Rattle.image_model.specs.Chain.{chain}
use Rattle.image_model.specs.Lookup.{lookup, super_lookup}
use Rattle.image_model.specs.Means.{means, means_in_doit}
use Rattle.image_model.proofs.Ends.{contains-place, place-contains}
use Rattle.run_model.specs.Values.{Name}
use Rattle.run_model.specs.ObjectPrimitives.{value_classes}
use Rattle.run_model.specs.Runs.{run, doit_class}
use Rattle.run_model.specs.Renamings.{no_renaming}
use Rattle.run_model.specs.Matched.{AreMatched}
use Rattle.run_model.proofs.Finite.{by_cases}
use Rattle.run_model.proofs.RenamingLemmas.{text-same}
use Rattle.mapped_model.specs.NamesOfImages.{HasOrderedClasses}
use Rattle.mapped_model.proofs.RenamedVariableLemmas.{at-all}
use Rattle.command_model.specs.SameMethods.{is_same_method}
use Rattle.agreement_laws.specs.Reaching.{is_super}
use Rattle.agreement_laws.specs.KernelChains.{HasKernelChains}
use Rattle.agreement_laws.specs.AgreeingImages.{Reached, IsWithin, IsFound, FindsAbove, MeansSameIn, AgreeOnReached}
use Rattle.agreement_laws.proofs.MethodsFound.{IsIn, lookup-in}
use Rattle.agreement_laws.proofs.ImagesAgree.{reached-runs, reached-matched}
use Rattle.strip_model.specs.Reach.{ReachOf, has_class, has_selector, has_method, is_closed}
use Rattle.strip_laws.proofs.Listed.{filter-place}
use Rattle.strip_laws.proofs.Closed.{owner-in, doit-means, method-means, doit-sends, method-sends}
use Rattle.strip_laws.proofs.Chains.{left, after, Good, good-chain, word-good}
use Rattle.strip_laws.proofs.Meanings.{means-same, doit-class, doit-good, doit-means-same}
use Rattle.strip_laws.proofs.Lookups.{lookup-same, above-found}
use Rattle.strip_laws.proofs.SameMethod.{method-self}

-- a name that is among others
there : (n m : Name) (ns : List Name) → Contains ns n → Contains (m ∷ ns) n
there n m ns h = Contains-append_right (m ∷ []) ns n h

here : (n m : Name) (ns : List Name) → n ≡ m → Contains (m ∷ ns) n
here n m ns e = place-contains (m ∷ ns) 0 n (ap Some (sym e))

among-contains : (n : Name) (ns : List Name) → list_any (text_eq n) ns ≡ true → Contains ns n
among-contains n [] h = absurd (false≢true h)
among-contains n (m ∷ ns) h = by_cases (text_eq n m) (λ t. here n m ns (text-same n m t)) (λ t. there n m ns (among-contains n ns (sym (ap (λ b. b || list_any (text_eq n) ns) t) ∙ h)))

at-among : (n : Name) (ns : List Name) (k : ℕ) → slice_get ns k ≡ Some n → list_any (text_eq n) ns ≡ true
at-among n [] k at = absurd (cc)
at-among n (m ∷ ns) zero at = let same : m ≡ n = cc in ap (λ b. b || list_any (text_eq n) ns) (ap (text_eq n) same ∙ text_eq-refl n)
at-among n (m ∷ ns) (suc k) at = by (text_eq n m) (at-among n ns k at)
  where
    by : (b : Bool) → list_any (text_eq n) ns ≡ true → (b || list_any (text_eq n) ns) ≡ true
    by true e = refl
    by false e = e

contains-among : (n : Name) (ns : List Name) → Contains ns n → list_any (text_eq n) ns ≡ true
contains-among n ns h = let at = contains-place ns n h in at-among n ns at.0 at.1

module _ (i : ImageOf Name) (r : ReachOf Name) (closed : is_closed text_words i r ≡ true) (before : HasOrderedClasses i) (chains : HasKernelChains i) where
  -- the image without what is not reached
  abbrev j : ImageOf Name
  j = left i r closed before

  abbrev Fine : Name → Type 0
  Fine c = Good i r closed before c

  -- the classes of which the language speaks count as reached, also where there are none
  abbrev reached : Reached
  reached = record { classes = r.classes ++ value_classes; selectors = r.selectors; methods = j.methods }

  fine-words : (vs : List Name) → AllByRecursion (λ (v : Name). AllByRecursion (λ (e : ClassOf Name). IsTrue e.kernel) (chain text_eq i.classes (Some v))) vs → AllByRecursion Fine vs
  fine-words [] a = tt
  fine-words (v ∷ vs) a = (word-good i r closed before v a.0, fine-words vs a.1)

  fine : (c : Name) → Contains reached.classes c → Fine c
  fine c h = by (Contains-append_cases r.classes value_classes c h)
    where
      by : Contains r.classes c ⊎ Contains value_classes c → Fine c
      by (inl k) = inl (contains-among c r.classes k)
      by (inr k) = All-contains Fine value_classes c (All-from_recursion Fine value_classes (fine-words value_classes chains)) k

  in-classes : (c : Name) → has_class text_eq r c ≡ true → Contains reached.classes c
  in-classes c h = Contains-append_left r.classes value_classes c (among-contains c r.classes h)

  -- a method that is left
  method-at : (m : EntryOf Name) → IsIn j m → (k : ℕ) × (slice_get i.methods k ≡ Some m) × (has_method text_eq r m ≡ true)
  method-at m at = filter-place (has_method text_eq r) i.methods at.0 m at.1

  owner-fine : (m : EntryOf Name) → IsIn j m → OptionNames Fine m.class
  owner-fine m at = let place = method-at m at in by m.class (λ c q. owner-in i r closed place.0 m c place.1 place.2 q)
    where
      by : (o : Option Name) → ((c : Name) → o ≡ Some c → has_class text_eq r c ≡ true) → OptionNames Fine o
      by None h = tt
      by (Some c) h = inl (h c refl)

  method-same : (m : EntryOf Name) → IsIn j m → is_same_method text_words is_super i j m m ≡ true
  method-same m at =
      let place = method-at m at in
      method-self i j m (λ path u n q e. means-same i r closed before m path n (owner-fine m at) (λ c g. method-means i r closed place.0 m place.1 place.2 path u n c q e g))

  -- what is found in both
  found-same : (o : Option (EntryOf Name)) → OptionNames (IsIn j) o → IsFound reached i j o o
  found-same None h = (tt, refl)
  found-same (Some m) h = (place-contains j.methods h.0 m h.1, method-same m h)

  found : (o p : Option (EntryOf Name)) → p ≡ o → OptionNames (IsIn j) p → IsFound reached i j o p
  found o p e h = subst (λ x. IsFound reached i j x p) e (found-same p h)

  above : (c : Option Name) (b : Bool) (s : Name) → OptionNames Fine c → has_selector text_eq r s ≡ true → IsFound reached i j (super_lookup text_words i c b s) (super_lookup text_words j c b s)
  above c b s g sent = found (super_lookup text_words i c b s) (super_lookup text_words j c b s) (above-found i r closed before chains s sent c b g) (lookup-in j _ b s)

  agree : AgreeOnReached reached i j
  agree = record {
    doits = refl;
    doits_mean = at-all (MeansSameIn reached i j) i.doits (λ k d at path u n q e. sym (doit-means-same i r closed before chains d path n (λ c g. doit-means i r closed k d at path u n c q e g)));
    doits_within = at-all (λ (d : DoItOf Name). IsWithin reached i j (means_in_doit text_words i d) d.body) i.doits (λ k d at. record {
      reads = λ c (path, n, q, e). in-classes c (doit-means i r closed k d at path (var n) n c q refl e);
      sends = λ s (path, u, q, e). among-contains s r.selectors (doit-sends i r closed k d at path u s q e);
    });
    doits_above = at-all (λ (d : DoItOf Name). FindsAbove reached i j (doit_class i) false (doit_class j) false d.body) i.doits
        (λ k d at s (path, t, args, q, e).
        subst (λ c. IsFound reached i j (super_lookup text_words i (doit_class i) false s) (super_lookup text_words j c false s)) (sym (doit-class i r closed before chains))
        (above (doit_class i) false s (doit-good i r closed before chains) (doit-sends i r closed k d at path (send t s args) s q (text_eq-refl s))));
    methods_within = at-all (λ (m : EntryOf Name). IsWithin reached i j (means text_words i m) m.tree.body) j.methods (λ l m there'.
        let place = method-at m (l, there') in
        record {
          reads = λ c (path, n, q, e). in-classes c (method-means i r closed place.0 m place.1 place.2 path (var n) n c q refl e);
          sends = λ s (path, u, q, e). among-contains s r.selectors (method-sends i r closed place.0 m place.1 place.2 path u s q e);
        });
    methods_above = at-all (λ (m : EntryOf Name). FindsAbove reached i j m.class m.meta m.class m.meta m.tree.body) j.methods (λ l m there' s (path, t, args, q, e).
        let place = method-at m (l, there') in
        above m.class m.meta s (owner-fine m (l, there')) (method-sends i r closed place.0 m place.1 place.2 path (send t s args) s q (text_eq-refl s)));
    kernel = at-all (Contains reached.classes) value_classes (λ k v at. Contains-append_right r.classes value_classes v (place-contains value_classes k v at));
    found = λ c b s h k. found (lookup text_words i (Some c) b s) (lookup text_words j (Some c) b s) (lookup-same i r closed before chains s (contains-among s r.selectors k) (Some c) b (fine c h)) (lookup-in j (Some c) b s);
    kinds = λ c d h k. ap (list_any (λ (e : ClassOf Name). text_eq d e.name)) (good-chain i r closed before (Some c) (fine c h));
  }

  pub strip-runs : (n : ℕ) → run j n ≡ run i n
  strip-runs n = reached-runs reached i j before (after i r closed before) agree n

  pub strip-matched : AreMatched i j no_renaming
  strip-matched = reached-matched reached i j before (after i r closed before) agree
