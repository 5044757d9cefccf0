-- Code in which a variable is read and assigned by messages is proper.
use Rattle.std.proofs.Common.{◌≡◌, inr, ℕ, Bool, true, false, List, refl, sym, ap, subst, ◌∙◌, arith}
use Rattle.std.specs.Prelude.{◌||◌, ◌&&◌, if◌then◌else◌, codes}
use Rattle.std.specs.Str.{bytes_eq}
use Rattle.std.proofs.lemmas.Bool.{and_parts, or_parts, not-true}
use Rattle.rb_base.specs.Names.{text_eq}
use Rattle.tree_model.specs.Tree.{TreeOf, var, send, assign, no_trees, more_trees, MethodOf}
use Rattle.scope_model.specs.SpecialNames.{is_pseudo_variable}
use Rattle.text_model.specs.Literals.{is_identifier}
use Rattle.image_model.specs.Image.{ImageOf}
use Rattle.image_model.specs.Words.{text_words}
use Rattle.image_model.specs.Means.{of_instance, MeaningOf}
use Rattle.image_model.specs.Uses.{is_variable}
use Rattle.grammar_model.specs.Words.{is_pseudo}
use Rattle.grammar_model.specs.Checks.{Known, is_fixed}
use Rattle.reread_law.specs.WellFormed.{IsWord, LastOne, FitsNone, FitsParts, IsValue}
use Rattle.reread_law.specs.WholeTrees.{LastName, ByName, ByKeywords, WellFormedMethod}
use Rattle.file_model.specs.Filing.{Text}
use Rattle.file_model.specs.Words.{is_global, may_name}
use Rattle.rename_model.specs.ClassRenamed.{WritingOf}
use Rattle.command_model.specs.Accessors.{setter_argument, setter_selector, getter, setter_of, made}
use Rattle.command_model.specs.Walk.{Making, rebuilt_method}
use Rattle.effect_laws.proofs.NewNames.{no_pseudo}
use Rattle.code_effect_laws.proofs.Proper.{IsProper}
use Rattle.code_effect_laws.proofs.Stands.{StandsFor}
use Rattle.code_effect_laws.proofs.Walked.{Leaves}
use Rattle.code_effect_laws.proofs.Methods.{IsProperMethod, method_well, known_in}
use Rattle.kept_runs.specs.WellSpelled.{AreSetterNames}
use Rattle.file_laws.proofs.Moves.{text_equal}
use Rattle.code_effect_laws.proofs.WalkedMethods.{rebuilt_method_proper}

module _ (writing : WritingOf Text) (c x setter given : Text) (i : ImageOf Text) (word : IsWord x) (spelled : setter ≡ setter_selector x) (at : List ℕ → Text → MeaningOf Text) where
  abbrev walk : Making Text
  walk = made text_words writing (codes "self") c x setter given i at

  walk_leaves : Leaves walk
  walk_leaves = record {
    literals = λ path l. refl;
    sends = λ path r s xs. refl;
    cascades = λ path r ms. refl;
    blocks = λ path ps ds ss e. refl;
    braces = λ path ts. refl;
    returns = λ path t. refl;
  }

  -- whether a name is that of the variable
  abbrev is : List ℕ → Text → Bool
  is path n = text_eq x n && is_variable text_eq of_instance c (at path n)

  read : (ls : List Known) (b : Bool) (n : Text) → IsWord n → IsProper ls (if b then send (var (codes "self")) x no_trees else var n) × StandsFor (var n) (if b then send (var (codes "self")) x no_trees else var n)
  read ls true n w = ((refl, tt, FitsNone word, tt), inr (tt, tt, λ v. tt))
  read ls false n w = (w, inr (tt, tt, λ v. v))

  assigned : (ls : List Known) (b : Bool) (n : Text) (u v : TreeOf Text) → IsWord n → is_pseudo n ≡ false → is_fixed ls n ≡ false → IsProper ls v → IsValue v
      → IsProper ls (if b then send (var (codes "self")) setter (more_trees v no_trees) else assign n v) × StandsFor (assign n u) (if b then send (var (codes "self")) setter (more_trees v no_trees) else assign n v)
  assigned ls true n u v w o free p value = ((refl, tt, FitsParts (LastOne (record { name = x; is = spelled; word = word })), (p, value, tt)), inr (tt, tt, λ z. tt))
  assigned ls false n u v w o free p value = ((w, o, free, p, value), inr (tt, tt, λ z. tt))

  pub walked_proper : (m : MethodOf Text) → IsProperMethod m → IsProperMethod (rebuilt_method walk m)
  walked_proper m p =
      rebuilt_method_proper walk m walk_leaves
      (record {
        reads = λ path n e w. read (known_in m path) (is path n) n w;
        assigns = λ path n u v e w o free q value. assigned (known_in m path) (is path n) n u v w o free q value;
      })
      p

-- a name that may be given
pub record IsGiven (x : Text) : Type 0 where
  pub word : IsWord x
  pub ordinary : is_pseudo x ≡ false
  pub other : bytes_eq x (codes "super") ≡ false

pub given_name : (x : Text) → may_name x ≡ true → IsGiven x
given_name x h =
    let a = and_parts (is_identifier x) _ h in
    let b = or_parts (is_pseudo_variable x) (is_global x) (not-true (is_pseudo_variable x || is_global x) a.1) in
    let n = no_pseudo x b.0 in
    record { word = a.0; ordinary = n.0; other = n.1 }

-- the argument of the setter is another name
other_argument : (x : Text) → (text_eq x (setter_argument x) ≡ false) × IsWord (setter_argument x) × (bytes_eq (setter_argument x) (codes "super") ≡ false)
other_argument x = by (text_eq x (codes "anObject")) refl
  where
    by : (b : Bool) → text_eq x (codes "anObject") ≡ b → (text_eq x (if b then codes "aValue" else codes "anObject") ≡ false) × IsWord (if b then codes "aValue" else codes "anObject") × (bytes_eq (if b then codes "aValue" else codes "anObject") (codes "super") ≡ false)
    by true e = (ap (λ y. text_eq y (codes "aValue")) (text_equal x (codes "anObject") e), refl, refl)
    by false e = (e, refl, refl)

-- both accessors are well formed
getter_proper : (x : Text) → IsGiven x → IsProperMethod (getter x)
getter_proper x g = record {
  pattern = ByName g.word;
  head = tt;
  body = record { words = tt; once = refl; statements = (tt, (g.word, g.other), tt, tt); notes = tt };
  primitive = refl;
}

pub getter_well : (x : Text) → IsGiven x → WellFormedMethod false (getter x)
getter_well x g = method_well (getter x) (getter_proper x g) (λ e. refl) (omega arith)

setter_proper : (x setter given : Text) → IsGiven x → setter ≡ setter_selector x → text_eq x given ≡ false → IsWord given → bytes_eq given (codes "super") ≡ false → IsProperMethod (setter_of x setter given)
setter_proper x setter given g spelled apart word other = record {
  pattern = ByKeywords (LastName (record { name = x; is = spelled; word = g.word }) word);
  head = tt;
  body = record {
    words = tt;
    once = refl;
    statements = (tt, ((g.word, g.ordinary, ap (λ b. if b then true else false) apart, word, other), tt), tt, tt);
    notes = tt;
  };
  primitive = refl;
}

pub setter_well : (x setter given : Text) → IsGiven x → AreSetterNames x setter given → WellFormedMethod false (setter_of x setter given)
setter_well x setter given g names =
    let a = other_argument x in
    let same : setter_argument x ≡ given = sym names.parameter_is in
    method_well (setter_of x setter given)
    (setter_proper x setter given g names.selector (ap (text_eq x) names.parameter_is ∙ a.0) (subst IsWord same a.1) (ap (λ n. bytes_eq n (codes "super")) names.parameter_is ∙ a.2)) (λ e. refl) (omega arith)
