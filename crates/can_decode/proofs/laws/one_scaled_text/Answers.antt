use Rattle.can_decode.proofs.OneText.{one_text}
use Rattle.can_decode.proofs.ScaledTexts.{scaled_text_is, scaled_text_of_scale}
use Rattle.can_decode.proofs.TextParts.{one_value}
use Rattle.can_decode.proofs.laws.one_scaled_text.Goals as goal

pub returns-clause-is : goal.returns-clause-is
returns-clause-is c = scaled_text_is

pub returns-clause-one : goal.returns-clause-one
returns-clause-one c = λ value places a b. one_text {value = value} {places = places} a b

pub returns-clause-back : goal.returns-clause-back
returns-clause-back c = one_value

pub returns-clause-of_scale : goal.returns-clause-of_scale
returns-clause-of_scale c = scaled_text_of_scale
