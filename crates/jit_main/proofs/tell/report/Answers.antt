use Rattle.std.proofs.Common.{◌≡◌, refl, subst, IfOk}
use Rattle.jit_text.specs.RefusalTexts.{unverified_text}
use Rattle.jit_main.specs.declared.stop.Stop.TheVariants.{Usage, CannotRead, Unread, Unverified, TooBig, Uncalled, NoRoom}
use Rattle.jit_main.proofs.Fronts.{with_text, made_why}
use Rattle.jit_main.proofs.tell.report.Goals as goal

pub returns-in-Usage : goal.returns-in-Usage
returns-in-Usage g c = rw c.in-Usage.is (with_text Usage 3 _ _ _ _ refl c.say.ensures)

pub returns-in-CannotRead : goal.returns-in-CannotRead
returns-in-CannotRead g c = rw c.in-CannotRead.is (with_text (CannotRead c.in-CannotRead.name) 4 _ _ _ _ refl c.say_unread.ensures)

pub returns-in-Unread : goal.returns-in-Unread
returns-in-Unread g c = rw c.in-Unread.is
    (made_why (Unread c.in-Unread.refusal) c.unread_text.result c.say_made.result 2 _ _ _ _ tt refl c.unread_text.ensures c.say_made.ensures.made c.say_made.ensures.unmade)

pub returns-in-Unverified : goal.returns-in-Unverified
returns-in-Unverified g c = rw c.in-Unverified.is
    (made_why (Unverified c.in-Unverified.module c.in-Unverified.refusal) c.unverified_text-made.result c.say_made-in-Unverified.result 2 _ _ _ _ tt refl (subst (λ functions. IfOk c.unverified_text-made.result (λ text. text.items ≡ unverified_text functions c.in-Unverified.refusal)) c.as_slice.ensures c.unverified_text-made.ensures) c.say_made-in-Unverified.ensures.made c.say_made-in-Unverified.ensures.unmade)

pub returns-in-TooBig : goal.returns-in-TooBig
returns-in-TooBig g c = rw c.in-TooBig.is
    (made_why (TooBig c.in-TooBig.bytes c.in-TooBig.room) c.no_image_text.result c.say_made-in-TooBig.result 2 _ _ _ _ tt refl c.no_image_text.ensures c.say_made-in-TooBig.ensures.made c.say_made-in-TooBig.ensures.unmade)

pub returns-in-Uncalled : goal.returns-in-Uncalled
returns-in-Uncalled g c = rw c.in-Uncalled.is
    (made_why (Uncalled c.in-Uncalled.refusal) c.uncalled_text.result c.say_made-in-Uncalled.result 2 _ _ _ _ tt refl c.uncalled_text.ensures c.say_made-in-Uncalled.ensures.made c.say_made-in-Uncalled.ensures.unmade)

pub returns-in-NoRoom : goal.returns-in-NoRoom
returns-in-NoRoom g c = rw c.in-NoRoom.is
    (made_why (NoRoom c.in-NoRoom.needed c.in-NoRoom.had) c.room_text.result c.say_made-in-NoRoom.result 7 _ _ _ _ tt refl c.room_text.ensures c.say_made-in-NoRoom.ensures.made c.say_made-in-NoRoom.ensures.unmade)
