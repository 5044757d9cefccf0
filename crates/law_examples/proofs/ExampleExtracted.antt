-- The example of an extraction meets the premises.
use Rattle.std.proofs.Common.{◌≡◌, [], ◌∷◌, Some, refl, ap, subst}
use Rattle.std.specs.Prelude.{true, false, codes}
use Rattle.rb_base.specs.Names.{text_eq}
use Rattle.scope_model.specs.SpecialNames.{is_pseudo_variable, control_form}
use Rattle.resolved_model.specs.ResolvedImages.{resolved_image, finds}
use Rattle.unfolded_calls.specs.Unfolding.{an_argument}
use Rattle.unfolded_calls.proofs.Running.{some-same}
use Rattle.unfolded_places.specs.Inlining.{IsFreeOf, plain_argument, plain_none, plain_more}
use Rattle.unfolded_places.specs.ExtractedOnce.{IsExtractedOnce}
use Rattle.law_examples.specs.UnfoldedExamples.{adding, whole_method, new_adder, example_whole, example_extracted}
use Rattle.law_examples.proofs.ExampleInlined.{below-account, inner}

pub example-extracted : IsExtractedOnce example_whole example_extracted
unfolding is_pseudo_variable control_form
example-extracted = record {
  earlier = [];
  between = [];
  later = [];
  method = whole_method;
  methods = refl;
  class = codes "Account";
  meta = false;
  selector = codes "adder:";
  names = codes "y" ∷ [];
  new = new_adder;
  source = [];
  path = 0 ∷ 0 ∷ 0 ∷ [];
  part = adding (codes "y");
  found = refl;
  after = refl;
  new_class = refl;
  new_meta = refl;
  new_selector = refl;
  new_arguments = refl;
  new_primitive = refl;
  new_temporaries = refl;
  note = [];
  new_statements = refl;
  opens = record { class = refl; meta = refl; user = λ b. let e : false ≡ true = ap (text_eq (codes "Account")) (below-account (codes "Class") (codes "Account") b refl) in absurd (cc) };
  target = λ c b. ap (λ x. finds (resolved_image example_extracted) (Some x) false (codes "adder:")) (below-account c (codes "Account") b refl);
  sent_earlier = tt;
  sent_there = ((refl, ((refl, (refl, tt, (tt, tt)), (tt, tt)), tt), (tt, tt)), tt);
  sent_between = tt;
  sent_later = tt;
  sent_by_doits = (((refl, (refl, tt, tt), (tt, tt)), tt), tt);
  message = refl;
  still = λ e. refl;
  no_super = λ e. absurd (cc);
  actuals = an_argument 0 ∷ [];
  plain = plain_more (plain_argument (codes "y") refl refl) plain_none;
  count = refl;
  may = (
    (
      refl,
      (λ e. refl),
      (refl, (λ e. refl), (λ p k. absurd (cc)), ((λ p k. record { passed = λ t e. subst (IsFreeOf inner) (some-same e) (λ q. refl); free = λ e. absurd (cc) }), tt)),
      ((λ p k. record { passed = λ t e. absurd (cc); free = λ e. (refl, refl) }), tt),
    ),
    tt,
  );
}
