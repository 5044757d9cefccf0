use Rattle.std.proofs.Common.{[], filter}
use Rattle.rb_base.specs.Names.{text_eq}
use Rattle.rb_base.proofs.NamesLemmas.{text_eq-refl}
use Rattle.file_model.specs.Places.{method_place}
use Rattle.file_laws.specs.Fronts.{class_of_kernel, method_of_kernel}
use Rattle.file_laws.proofs.Settled.{turn_of}
use Rattle.file_laws.proofs.Moves.{text_equal}
use Rattle.file_laws.proofs.PutAgain.{put_again_behind_same, put_again_behind_kernel}
use Rattle.file_laws.proofs.PlacedImages.{placed_in_order, placed_kernel_same, placed_names_once, placed_methods_once, placed_stays}
use Rattle.file_laws.proofs.laws.puts_in_again.Goals as goal

pub returns-clause-first : goal.returns-clause-first
returns-clause-first c = λ places image order same before. (placed_in_order text_eq text_eq-refl text_equal places image order same before).0

pub returns-clause-classes : goal.returns-clause-classes
returns-clause-classes c = λ places image order same before. (placed_in_order text_eq text_eq-refl text_equal places image order same before).1

pub returns-clause-methods : goal.returns-clause-methods
returns-clause-methods c = λ places image. put_again_behind_same method_of_kernel (method_place text_eq places.methods) image.methods

pub returns-clause-methods_once : goal.returns-clause-methods_once
returns-clause-methods_once c = placed_methods_once text_eq text_eq-refl text_equal

pub returns-clause-names_once : goal.returns-clause-names_once
returns-clause-names_once c = placed_names_once text_eq text_eq-refl text_equal

pub returns-clause-kernel_classes : goal.returns-clause-kernel_classes
returns-clause-kernel_classes c =
    λ places image before. placed_kernel_same text_eq text_eq-refl text_equal places image (turn_of text_eq text_eq-refl text_equal [] (filter class_of_kernel image.classes) before)

pub returns-clause-kernel_methods : goal.returns-clause-kernel_methods
returns-clause-kernel_methods c = λ places image. put_again_behind_kernel method_of_kernel (method_place text_eq places.methods) image.methods

pub returns-clause-stays : goal.returns-clause-stays
returns-clause-stays c = λ image before front. placed_stays text_eq text_eq-refl text_equal image before front.classes front.methods
