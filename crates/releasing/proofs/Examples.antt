-- What some texts print.
use Rattle.std.proofs.Common.{◌≡◌, [], codes, refl}
use Rattle.std.specs.Fmt.{digits}
use Rattle.releasing.specs.Printed.{printed}

kept : printed (codes "file 00 net\nfile 01 route\nfile 02 film\nhave net AB\ncopy net route\njoin route net film\n") ≡ codes "kept executed 2 skipped 0\n00 net 2\n01 route 2\n02 film 4\n"
unfolding digits
kept = refl

no_text : printed [] ≡ codes "kept executed 0 skipped 0\n"
unfolding digits
no_text = refl

no_label : printed (codes "copy a b") ≡ codes "refused 3\n"
unfolding digits
no_label = refl

hazard : printed (codes "file 00 a\nhave a x\ncopy a a") ≡ codes "stopped 33 read-write 00 0 0\n00 a 1\n"
unfolding digits
hazard = refl

absent : printed (codes "file 00 a\nfile 01 b\ncopy a b") ≡ codes "stopped 34 0\n"
unfolding digits
absent = refl

bad_list : printed (codes "file 07 a\nfile 01 b\nhave a 64\ngather a b") ≡ codes "stopped 35 0\n07 a 2\n"
unfolding digits
bad_list = refl

list_written : printed (codes "file 00 a\nfile 01 b\nhave a 01\nhave b xyz\ngather a a") ≡ codes "stopped 33 read-write 00 0 0\n00 a 2\n01 b 3\n"
unfolding digits
list_written = refl
