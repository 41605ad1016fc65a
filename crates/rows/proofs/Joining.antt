-- What 1 to 4, and 5, 32 and 6 after them, show for the later questions.
use Rattle.std.proofs.Common.{◌≡◌, List, ℕ, Ok}
use Rattle.plan.specs.Questions.{image_questions, row_questions}
use Rattle.plan.specs.Held.{InImage, Sound}
use Rattle.plan.proofs.Answers.{accepted_holds}
use Rattle.plan.proofs.Asking.{passed_all}
use Rattle.plan.proofs.Meanings.{image_agree, row_agree}
use Rattle.plan.proofs.Sounds.{in_image, sound}
use Rattle.asking.specs.Asking.{verdict}
use Rattle.asking.proofs.Verdicts.{passed_of}

module _ (s : List ℕ) where
  pub image_held : Ok tt ≡ verdict (image_questions s) → InImage s
  image_held e = in_image s (accepted_holds _ _ (image_agree s) (passed_all _ (passed_of _ e)))

  pub all_held : Ok tt ≡ verdict (image_questions s) → Ok tt ≡ verdict (row_questions s) → Sound s
  all_held e f =
      sound s (accepted_holds _ _ (image_agree s) (passed_all _ (passed_of _ e))) (accepted_holds _ _ (row_agree s) (passed_all _ (passed_of _ f)))
