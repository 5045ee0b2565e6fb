-- `names_bare::table::begins` meets its contract: each head is one arm, and the last arm knows that it is none of them.
-- Made by tools/make_names.py. Assumes nothing.
use mathlib.Core.Path.{subst}
use lib.Dec.{T}
use Rattle.names_bare.specs.Words.{heads}
use Rattle.names_search.proofs.Arms.{rest-none}
use Rattle.names_bare.proofs.table.begins.Goals as goal

pub returns-in-16709 : goal.returns-in-16709
returns-in-16709 c = λ e. absurd (subst T e tt)

pub returns-in-16717 : goal.returns-in-16717
returns-in-16717 c = λ e. absurd (subst T e tt)

pub returns-in-16737 : goal.returns-in-16737
returns-in-16737 c = λ e. absurd (subst T e tt)

pub returns-in-16739 : goal.returns-in-16739
returns-in-16739 c = λ e. absurd (subst T e tt)

pub returns-in-16743 : goal.returns-in-16743
returns-in-16743 c = λ e. absurd (subst T e tt)

pub returns-in-16754 : goal.returns-in-16754
returns-in-16754 c = λ e. absurd (subst T e tt)

pub returns-in-16756 : goal.returns-in-16756
returns-in-16756 c = λ e. absurd (subst T e tt)

pub returns-in-16757 : goal.returns-in-16757
returns-in-16757 c = λ e. absurd (subst T e tt)

pub returns-in-17231 : goal.returns-in-17231
returns-in-17231 c = λ e. absurd (subst T e tt)

pub returns-in-17251 : goal.returns-in-17251
returns-in-17251 c = λ e. absurd (subst T e tt)

pub returns-in-17748 : goal.returns-in-17748
returns-in-17748 c = λ e. absurd (subst T e tt)

pub returns-in-17761 : goal.returns-in-17761
returns-in-17761 c = λ e. absurd (subst T e tt)

pub returns-in-17763 : goal.returns-in-17763
returns-in-17763 c = λ e. absurd (subst T e tt)

pub returns-in-17767 : goal.returns-in-17767
returns-in-17767 c = λ e. absurd (subst T e tt)

pub returns-in-17781 : goal.returns-in-17781
returns-in-17781 c = λ e. absurd (subst T e tt)

pub returns-in-18260 : goal.returns-in-18260
returns-in-18260 c = λ e. absurd (subst T e tt)

pub returns-in-18785 : goal.returns-in-18785
returns-in-18785 c = λ e. absurd (subst T e tt)

pub returns-in-18787 : goal.returns-in-18787
returns-in-18787 c = λ e. absurd (subst T e tt)

pub returns-in-18791 : goal.returns-in-18791
returns-in-18791 c = λ e. absurd (subst T e tt)

pub returns-in-18805 : goal.returns-in-18805
returns-in-18805 c = λ e. absurd (subst T e tt)

pub returns-in-19540 : goal.returns-in-19540
returns-in-19540 c = λ e. absurd (subst T e tt)

pub returns-in-20084 : goal.returns-in-20084
returns-in-20084 c = λ e. absurd (subst T e tt)

pub returns-in-20321 : goal.returns-in-20321
returns-in-20321 c = λ e. absurd (subst T e tt)

pub returns-in-20323 : goal.returns-in-20323
returns-in-20323 c = λ e. absurd (subst T e tt)

pub returns-in-20327 : goal.returns-in-20327
returns-in-20327 c = λ e. absurd (subst T e tt)

pub returns-in-20339 : goal.returns-in-20339
returns-in-20339 c = λ e. absurd (subst T e tt)

pub returns-in-20340 : goal.returns-in-20340
returns-in-20340 c = λ e. absurd (subst T e tt)

pub returns-in-20341 : goal.returns-in-20341
returns-in-20341 c = λ e. absurd (subst T e tt)

pub returns-in-20821 : goal.returns-in-20821
returns-in-20821 c = λ e. absurd (subst T e tt)

pub returns-in-21061 : goal.returns-in-21061
returns-in-21061 c = λ e. absurd (subst T e tt)

pub returns-in-21576 : goal.returns-in-21576
returns-in-21576 c = λ e. absurd (subst T e tt)

pub returns-in-21857 : goal.returns-in-21857
returns-in-21857 c = λ e. absurd (subst T e tt)

pub returns-in-21859 : goal.returns-in-21859
returns-in-21859 c = λ e. absurd (subst T e tt)

pub returns-in-21863 : goal.returns-in-21863
returns-in-21863 c = λ e. absurd (subst T e tt)

pub returns-in-21877 : goal.returns-in-21877
returns-in-21877 c = λ e. absurd (subst T e tt)

pub returns-in-22881 : goal.returns-in-22881
returns-in-22881 c = λ e. absurd (subst T e tt)

pub returns-in-24929 : goal.returns-in-24929
returns-in-24929 c = λ e. absurd (subst T e tt)

pub returns-in-24931 : goal.returns-in-24931
returns-in-24931 c = λ e. absurd (subst T e tt)

pub returns-in-24933 : goal.returns-in-24933
returns-in-24933 c = λ e. absurd (subst T e tt)

pub returns-in-24935 : goal.returns-in-24935
returns-in-24935 c = λ e. absurd (subst T e tt)

pub returns-in-24941 : goal.returns-in-24941
returns-in-24941 c = λ e. absurd (subst T e tt)

pub returns-in-24946 : goal.returns-in-24946
returns-in-24946 c = λ e. absurd (subst T e tt)

pub returns-in-24948 : goal.returns-in-24948
returns-in-24948 c = λ e. absurd (subst T e tt)

pub returns-in-24949 : goal.returns-in-24949
returns-in-24949 c = λ e. absurd (subst T e tt)

pub returns-in-25202 : goal.returns-in-25202
returns-in-25202 c = λ e. absurd (subst T e tt)

pub returns-in-25443 : goal.returns-in-25443
returns-in-25443 c = λ e. absurd (subst T e tt)

pub returns-in-25445 : goal.returns-in-25445
returns-in-25445 c = λ e. absurd (subst T e tt)

pub returns-in-25455 : goal.returns-in-25455
returns-in-25455 c = λ e. absurd (subst T e tt)

pub returns-in-25461 : goal.returns-in-25461
returns-in-25461 c = λ e. absurd (subst T e tt)

pub returns-in-25701 : goal.returns-in-25701
returns-in-25701 c = λ e. absurd (subst T e tt)

pub returns-in-25705 : goal.returns-in-25705
returns-in-25705 c = λ e. absurd (subst T e tt)

pub returns-in-25953 : goal.returns-in-25953
returns-in-25953 c = λ e. absurd (subst T e tt)

pub returns-in-25955 : goal.returns-in-25955
returns-in-25955 c = λ e. absurd (subst T e tt)

pub returns-in-25959 : goal.returns-in-25959
returns-in-25959 c = λ e. absurd (subst T e tt)

pub returns-in-25972 : goal.returns-in-25972
returns-in-25972 c = λ e. absurd (subst T e tt)

pub returns-in-25973 : goal.returns-in-25973
returns-in-25973 c = λ e. absurd (subst T e tt)

pub returns-in-26226 : goal.returns-in-26226
returns-in-26226 c = λ e. absurd (subst T e tt)

pub returns-in-26484 : goal.returns-in-26484
returns-in-26484 c = λ e. absurd (subst T e tt)

pub returns-in-26977 : goal.returns-in-26977
returns-in-26977 c = λ e. absurd (subst T e tt)

pub returns-in-26979 : goal.returns-in-26979
returns-in-26979 c = λ e. absurd (subst T e tt)

pub returns-in-26981 : goal.returns-in-26981
returns-in-26981 c = λ e. absurd (subst T e tt)

pub returns-in-26983 : goal.returns-in-26983
returns-in-26983 c = λ e. absurd (subst T e tt)

pub returns-in-26993 : goal.returns-in-26993
returns-in-26993 c = λ e. absurd (subst T e tt)

pub returns-in-26997 : goal.returns-in-26997
returns-in-26997 c = λ e. absurd (subst T e tt)

pub returns-in-27745 : goal.returns-in-27745
returns-in-27745 c = λ e. absurd (subst T e tt)

pub returns-in-27764 : goal.returns-in-27764
returns-in-27764 c = λ e. absurd (subst T e tt)

pub returns-in-28001 : goal.returns-in-28001
returns-in-28001 c = λ e. absurd (subst T e tt)

pub returns-in-28009 : goal.returns-in-28009
returns-in-28009 c = λ e. absurd (subst T e tt)

pub returns-in-28258 : goal.returns-in-28258
returns-in-28258 c = λ e. absurd (subst T e tt)

pub returns-in-28271 : goal.returns-in-28271
returns-in-28271 c = λ e. absurd (subst T e tt)

pub returns-in-28276 : goal.returns-in-28276
returns-in-28276 c = λ e. absurd (subst T e tt)

pub returns-in-28513 : goal.returns-in-28513
returns-in-28513 c = λ e. absurd (subst T e tt)

pub returns-in-28515 : goal.returns-in-28515
returns-in-28515 c = λ e. absurd (subst T e tt)

pub returns-in-28519 : goal.returns-in-28519
returns-in-28519 c = λ e. absurd (subst T e tt)

pub returns-in-28530 : goal.returns-in-28530
returns-in-28530 c = λ e. absurd (subst T e tt)

pub returns-in-28531 : goal.returns-in-28531
returns-in-28531 c = λ e. absurd (subst T e tt)

pub returns-in-28532 : goal.returns-in-28532
returns-in-28532 c = λ e. absurd (subst T e tt)

pub returns-in-28533 : goal.returns-in-28533
returns-in-28533 c = λ e. absurd (subst T e tt)

pub returns-in-28769 : goal.returns-in-28769
returns-in-28769 c = λ e. absurd (subst T e tt)

pub returns-in-28780 : goal.returns-in-28780
returns-in-28780 c = λ e. absurd (subst T e tt)

pub returns-in-28783 : goal.returns-in-28783
returns-in-28783 c = λ e. absurd (subst T e tt)

pub returns-in-29045 : goal.returns-in-29045
returns-in-29045 c = λ e. absurd (subst T e tt)

pub returns-in-29281 : goal.returns-in-29281
returns-in-29281 c = λ e. absurd (subst T e tt)

pub returns-in-29285 : goal.returns-in-29285
returns-in-29285 c = λ e. absurd (subst T e tt)

pub returns-in-29541 : goal.returns-in-29541
returns-in-29541 c = λ e. absurd (subst T e tt)

pub returns-in-29544 : goal.returns-in-29544
returns-in-29544 c = λ e. absurd (subst T e tt)

pub returns-in-29557 : goal.returns-in-29557
returns-in-29557 c = λ e. absurd (subst T e tt)

pub returns-in-29562 : goal.returns-in-29562
returns-in-29562 c = λ e. absurd (subst T e tt)

pub returns-in-29800 : goal.returns-in-29800
returns-in-29800 c = λ e. absurd (subst T e tt)

pub returns-in-29801 : goal.returns-in-29801
returns-in-29801 c = λ e. absurd (subst T e tt)

pub returns-in-30049 : goal.returns-in-30049
returns-in-30049 c = λ e. absurd (subst T e tt)

pub returns-in-30051 : goal.returns-in-30051
returns-in-30051 c = λ e. absurd (subst T e tt)

pub returns-in-30055 : goal.returns-in-30055
returns-in-30055 c = λ e. absurd (subst T e tt)

pub returns-in-30061 : goal.returns-in-30061
returns-in-30061 c = λ e. absurd (subst T e tt)

pub returns-in-30069 : goal.returns-in-30069
returns-in-30069 c = λ e. absurd (subst T e tt)

pub returns-in-31073 : goal.returns-in-31073
returns-in-31073 c = λ e. absurd (subst T e tt)

pub returns-in-31077 : goal.returns-in-31077
returns-in-31077 c = λ e. absurd (subst T e tt)

pub returns-in-31093 : goal.returns-in-31093
returns-in-31093 c = λ e. absurd (subst T e tt)

pub returns-in_default : goal.returns-in_default
unfolding heads
returns-in_default c = λ e. rest-none c.args.head _ heads c.in_default.in_default-own.rest
