-- The classic oscillator's rooms, and places that it does not use: the width's too, where the shape does not step it. Assumes nothing.
use Rattle.classic.proofs.Places.{padded}
use Rattle.classic.proofs.voice.ParametersVoice.places.Goals as goal

pub returns : goal.returns
returns c = padded _ c.width_room.ensures
