use Rattle.journal_program.proofs.shell.follow.Goals as goal

pub read_on-requires : goal.read_on-requires
read_on-requires g c = let pre = c.requires in (pre.0, pre.1, pre.2, pre.3 c.in-Bytes.is)

pub returns-in-Nothing : goal.returns-in-Nothing
returns-in-Nothing g c = (c.go_on.ensures.0, rw c.in-Nothing.is (c.go_on.ensures.1 _))

pub returns-in-Bytes : goal.returns-in-Bytes
returns-in-Bytes g c = let r = c.read_on.ensures in (r.0, rw c.in-Bytes.is r.1)

pub returns-in-Room : goal.returns-in-Room
returns-in-Room g c = (c.write_on.ensures.0, rw c.in-Room.is (c.write_on.ensures.1 _))
