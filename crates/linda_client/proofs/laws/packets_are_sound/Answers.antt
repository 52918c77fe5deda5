use Rattle.linda_client.proofs.SoundLaws.{sound}
use Rattle.linda_client.proofs.laws.packets_are_sound.Goals as goal

pub returns : goal.returns
returns c = sound
