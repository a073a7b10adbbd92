use Rattle.np_static.proofs.Loads.{sound-carried, sound-known, sound-each}
use Rattle.np_static.proofs.law.a_sound_list_is_one_that_the_hosts_carry.Goals as goal

pub returns-clause-carried : goal.returns-clause-carried
returns-clause-carried c = sound-carried

pub returns-clause-known : goal.returns-clause-known
returns-clause-known c = sound-known

pub returns-clause-sound : goal.returns-clause-sound
returns-clause-sound c = sound-each
