-- What is closed, class by class, do-it by do-it and method by method.
use Rattle.std.proofs.Common.{◌≡◌, ◌&&◌, ◌||◌, Bool, true, false, not, map, filter, ◌++◌, List, refl, sym, ap, ◌∙◌}
use Rattle.std.specs.List.{list_all, flat_map}
use Rattle.std.specs.Option.{option_map_or}
use Rattle.std.proofs.lemmas.List.Folds.{list_all-append}
use Rattle.image_model.specs.Image.{ClassOf, EntryOf, DoItOf, ImageOf}
use Rattle.image_model.specs.Words.{WordsOf}
use Rattle.strip_model.specs.Reach.{Signature, ReachOf, has_class, has_selector, has_signature, has_method, if_named, signatures, code_means, code_sends, doit_code, method_code, is_closed}
use Rattle.image_strip.proofs.Alls.{all-both, all-each, all-given, all-mapped}

-- eight tests in another order
regroup : (a b c d e f g h : Bool) → ((a && (b && (c && (d && e)))) && ((f && g) && h)) ≡ ((a && b) && ((d && f) && (h && (c && (e && g)))))
regroup false b c d e f g h = refl
regroup true false c d e f g h = refl
regroup true true false true e true g true = refl
regroup true true false true e true g false = refl
regroup true true false true e false g h = refl
regroup true true false false e f g h = refl
regroup true true true false e f g h = refl
regroup true true true true false true g true = refl
regroup true true true true false true g false = refl
regroup true true true true false false g h = refl
regroup true true true true true false g h = refl
regroup true true true true true true false true = refl
regroup true true true true true true false false = refl
regroup true true true true true true true true = refl
regroup true true true true true true true false = refl

module _ {N : Type 0} (w : WordsOf N) (i : ImageOf N) (r : ReachOf N) where
  abbrev hc : N → Bool
  hc = has_class w.tests.same r

  abbrev hs : N → Bool
  hs = has_selector w.tests.same r

  abbrev hk : Signature N → Bool
  hk = has_signature w.tests.same r

  abbrev hm : EntryOf N → Bool
  hm = has_method w.tests.same r

  -- a class, a do-it and a method by itself
  abbrev pub closed_class : ClassOf N → Bool
  closed_class c = (not c.kernel || hc c.name) && (not (hc c.name) || list_all hc (if_named c.superclass))

  abbrev pub closed_doit : DoItOf N → Bool
  closed_doit d = list_all hc (code_means (doit_code w i d)) && list_all hs (code_sends (doit_code w i d))

  abbrev pub is_wanted : EntryOf N → Bool
  is_wanted m = m.kernel || (option_map_or hc m.class false && hs m.tree.selector)

  abbrev pub closed_method : EntryOf N → Bool
  closed_method m =
      (not (is_wanted m) || list_all hk (signatures m))
      && ((not (hm m) || list_all hc (if_named m.class)) && ((not (hm m) || list_all hc (code_means (method_code w i m))) && (not (hm m) || list_all hs (code_sends (method_code w i m)))))

  -- the lists of what is demanded
  abbrev kernel : List N
  kernel = map (λ (c : ClassOf N). c.name) (filter (λ (c : ClassOf N). c.kernel) i.classes)

  abbrev above : List N
  above = flat_map (λ (c : ClassOf N). if_named c.superclass) (filter (λ (c : ClassOf N). hc c.name) i.classes)

  abbrev homes : List N
  homes = flat_map (λ (m : EntryOf N). if_named m.class) (filter hm i.methods)

  abbrev in_doits : List N
  in_doits = flat_map (λ (d : DoItOf N). code_means (doit_code w i d)) i.doits

  abbrev in_methods : List N
  in_methods = flat_map (λ (m : EntryOf N). code_means (method_code w i m)) (filter hm i.methods)

  abbrev sent_in_doits : List N
  sent_in_doits = flat_map (λ (d : DoItOf N). code_sends (doit_code w i d)) i.doits

  abbrev sent_in_methods : List N
  sent_in_methods = flat_map (λ (m : EntryOf N). code_sends (method_code w i m)) (filter hm i.methods)

  abbrev wanted : List (Signature N)
  wanted = flat_map signatures (filter is_wanted i.methods)

  classes-split : list_all hc (kernel ++ (above ++ (homes ++ (in_doits ++ in_methods)))) ≡ (list_all hc kernel && (list_all hc above && (list_all hc homes && (list_all hc in_doits && list_all hc in_methods))))
  classes-split =
      list_all-append hc kernel (above ++ (homes ++ (in_doits ++ in_methods)))
      ∙ ap (λ (b : Bool). list_all hc kernel && b) (list_all-append hc above (homes ++ (in_doits ++ in_methods))
      ∙ ap (λ (b : Bool). list_all hc above && b) (list_all-append hc homes (in_doits ++ in_methods)
      ∙ ap (λ (b : Bool). list_all hc homes && b) (list_all-append hc in_doits in_methods)))

  classes-are : (list_all hc kernel && list_all hc above) ≡ list_all closed_class i.classes
  classes-are =
      (λ j. all-mapped hc (λ (c : ClassOf N). c.name) (λ (c : ClassOf N). c.kernel) i.classes j && all-given hc (λ (c : ClassOf N). if_named c.superclass) (λ (c : ClassOf N). hc c.name) i.classes j)
      ∙ sym (all-both (λ (c : ClassOf N). not c.kernel || hc c.name) (λ (c : ClassOf N). not (hc c.name) || list_all hc (if_named c.superclass)) i.classes)

  doits-are : (list_all hc in_doits && list_all hs sent_in_doits) ≡ list_all closed_doit i.doits
  doits-are =
      (λ j. all-each hc (λ (d : DoItOf N). code_means (doit_code w i d)) i.doits j && all-each hs (λ (d : DoItOf N). code_sends (doit_code w i d)) i.doits j)
      ∙ sym (all-both (λ (d : DoItOf N). list_all hc (code_means (doit_code w i d))) (λ (d : DoItOf N). list_all hs (code_sends (doit_code w i d))) i.doits)

  methods-are : (list_all hk wanted && (list_all hc homes && (list_all hc in_methods && list_all hs sent_in_methods))) ≡ list_all closed_method i.methods
  methods-are =
      let a : EntryOf N → Bool = λ m. not (is_wanted m) || list_all hk (signatures m) in
      let b : EntryOf N → Bool = λ m. not (hm m) || list_all hc (if_named m.class) in
      let c : EntryOf N → Bool = λ m. not (hm m) || list_all hc (code_means (method_code w i m)) in
      let d : EntryOf N → Bool = λ m. not (hm m) || list_all hs (code_sends (method_code w i m)) in
      (λ j. all-given hk signatures is_wanted i.methods j
      && (all-given hc (λ (m : EntryOf N). if_named m.class) hm i.methods j
      && (all-given hc (λ (m : EntryOf N). code_means (method_code w i m)) hm i.methods j && all-given hs (λ (m : EntryOf N). code_sends (method_code w i m)) hm i.methods j)))
      ∙ ap (λ (t : Bool). list_all a i.methods && (list_all b i.methods && t)) (sym (all-both c d i.methods))
      ∙ ap (λ (t : Bool). list_all a i.methods && t) (sym (all-both b (λ m. c m && d m) i.methods))
      ∙ sym (all-both a (λ m. b m && (c m && d m)) i.methods)

  pub closed-parts : is_closed w i r ≡ (list_all closed_class i.classes && (list_all closed_doit i.doits && list_all closed_method i.methods))
  closed-parts =
      (λ j. classes-split j && (list_all-append hs sent_in_doits sent_in_methods j && list_all hk wanted))
      ∙ regroup (list_all hc kernel) (list_all hc above) (list_all hc homes) (list_all hc in_doits) (list_all hc in_methods) (list_all hs sent_in_doits) (list_all hs sent_in_methods) (list_all hk wanted)
      ∙ (λ j. classes-are j && (doits-are j && methods-are j))
