-- Renamings the other way.
use Rattle.std.specs.Prelude.{◌≡◌, List, map}
use Rattle.run_model.specs.Values.{Name}
use Rattle.run_model.specs.Renamings.{OfClass, MethodName, Renaming, no_renaming, class_image, selector_image, method_image}
use Rattle.mapped_model.specs.NamesInUse.{NamesInUse, IsAmong}

-- each entry of a map, from what the key is called after to the key
abbrev pub turned : {K : Type 0} → List (K × K) → List (K × K)
turned entries = map (λ e. (e.1, e.0)) entries

-- the same of names that belong to a class: from the new name in the class as it is called after
abbrev pub turned_in : Renaming → List (OfClass × Name) → List (OfClass × Name)
turned_in r entries = map (λ e. ((class_image r e.0.0, e.1), e.0.1)) entries

-- the same of temporaries: from the new name in the method as it is called after
abbrev pub turned_temporaries : Renaming → List ((MethodName × Name) × Name) → List ((MethodName × Name) × Name)
turned_temporaries r entries = map (λ e. ((method_image r e.0.0, e.1), e.0.1)) entries

-- the inverse maps of a renaming
abbrev pub inverse : Renaming → Renaming
inverse r = record {
  classes = turned r.classes;
  selectors = turned r.selectors;
  shared = turned r.shared;
  instance = turned_in r r.instance;
  class_side = turned_in r r.class_side;
  temporaries = turned_temporaries r r.temporaries;
}

-- The second renaming gives each class and each selector in use back the name that the first one takes from it. A run shows no other names.
pub record TakesBack (u : NamesInUse) (r q : Renaming) : Type 0 where
  pub classes : (c : Name) → IsAmong u.classes c → class_image q (class_image r c) ≡ c
  pub selectors : (s : Name) → IsAmong u.selectors s → selector_image q (selector_image r s) ≡ s

-- the inverse maps of any renaming, of the classes and selectors in use alone
abbrev pub inverse_on : NamesInUse → Renaming → Renaming
inverse_on u r = record no_renaming {
  classes = map (λ c. (class_image r c, c)) u.classes;
  selectors = map (λ s. (selector_image r s, s)) u.selectors;
}

-- no two classes in use become one, and no two selectors
pub record KeepsApart (u : NamesInUse) (r : Renaming) : Type 0 where
  pub classes : (c d : Name) → IsAmong u.classes c → IsAmong u.classes d → class_image r c ≡ class_image r d → c ≡ d
  pub selectors : (s t : Name) → IsAmong u.selectors s → IsAmong u.selectors t → selector_image r s ≡ selector_image r t → s ≡ t
