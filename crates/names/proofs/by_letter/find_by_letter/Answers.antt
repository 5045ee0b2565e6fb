-- `names::by_letter::find_by_letter` meets its contract: a name is looked up among those of its first letter, and no name begins with another byte.
-- Made by tools/make_names.py. Assumes nothing.
use mathlib.Core.Path.{◌∙◌}
use mathlib.Core.List.{List, map}
use Prim.Native.Nat.{ℕ}
use Rattle.rules.specs.Tables.{Row}
use Rattle.names_search.proofs.Arms.{rest-none}
use Rattle.names.proofs.Letters.{letters, at-letter, no-letter}
use Rattle.names.proofs.by_letter.find_by_letter.Goals as goal

pub returns-in-65 : goal.returns-in-65
unfolding letters
returns-in-65 c =
    let a = c.args in
    c.upper_a.ensures ∙ at-letter 0x41 a.first a.rest.now c.in-65.is

pub returns-in-66 : goal.returns-in-66
unfolding letters
returns-in-66 c =
    let a = c.args in
    c.upper_b.ensures ∙ at-letter 0x42 a.first a.rest.now c.in-66.is

pub returns-in-67 : goal.returns-in-67
unfolding letters
returns-in-67 c =
    let a = c.args in
    c.upper_c.ensures ∙ at-letter 0x43 a.first a.rest.now c.in-67.is

pub returns-in-68 : goal.returns-in-68
unfolding letters
returns-in-68 c =
    let a = c.args in
    c.upper_d.ensures ∙ at-letter 0x44 a.first a.rest.now c.in-68.is

pub returns-in-69 : goal.returns-in-69
unfolding letters
returns-in-69 c =
    let a = c.args in
    c.upper_e.ensures ∙ at-letter 0x45 a.first a.rest.now c.in-69.is

pub returns-in-70 : goal.returns-in-70
unfolding letters
returns-in-70 c =
    let a = c.args in
    c.upper_f.ensures ∙ at-letter 0x46 a.first a.rest.now c.in-70.is

pub returns-in-71 : goal.returns-in-71
unfolding letters
returns-in-71 c =
    let a = c.args in
    c.upper_g.ensures ∙ at-letter 0x47 a.first a.rest.now c.in-71.is

pub returns-in-72 : goal.returns-in-72
unfolding letters
returns-in-72 c =
    let a = c.args in
    c.upper_h.ensures ∙ at-letter 0x48 a.first a.rest.now c.in-72.is

pub returns-in-73 : goal.returns-in-73
unfolding letters
returns-in-73 c =
    let a = c.args in
    c.upper_i.ensures ∙ at-letter 0x49 a.first a.rest.now c.in-73.is

pub returns-in-74 : goal.returns-in-74
unfolding letters
returns-in-74 c =
    let a = c.args in
    c.upper_j.ensures ∙ at-letter 0x4A a.first a.rest.now c.in-74.is

pub returns-in-75 : goal.returns-in-75
unfolding letters
returns-in-75 c =
    let a = c.args in
    c.upper_k.ensures ∙ at-letter 0x4B a.first a.rest.now c.in-75.is

pub returns-in-76 : goal.returns-in-76
unfolding letters
returns-in-76 c =
    let a = c.args in
    c.upper_l.ensures ∙ at-letter 0x4C a.first a.rest.now c.in-76.is

pub returns-in-77 : goal.returns-in-77
unfolding letters
returns-in-77 c =
    let a = c.args in
    c.upper_m.ensures ∙ at-letter 0x4D a.first a.rest.now c.in-77.is

pub returns-in-78 : goal.returns-in-78
unfolding letters
returns-in-78 c =
    let a = c.args in
    c.upper_n.ensures ∙ at-letter 0x4E a.first a.rest.now c.in-78.is

pub returns-in-79 : goal.returns-in-79
unfolding letters
returns-in-79 c =
    let a = c.args in
    c.upper_o.ensures ∙ at-letter 0x4F a.first a.rest.now c.in-79.is

pub returns-in-80 : goal.returns-in-80
unfolding letters
returns-in-80 c =
    let a = c.args in
    c.upper_p.ensures ∙ at-letter 0x50 a.first a.rest.now c.in-80.is

pub returns-in-81 : goal.returns-in-81
unfolding letters
returns-in-81 c =
    let a = c.args in
    c.upper_q.ensures ∙ at-letter 0x51 a.first a.rest.now c.in-81.is

pub returns-in-82 : goal.returns-in-82
unfolding letters
returns-in-82 c =
    let a = c.args in
    c.upper_r.ensures ∙ at-letter 0x52 a.first a.rest.now c.in-82.is

pub returns-in-83 : goal.returns-in-83
unfolding letters
returns-in-83 c =
    let a = c.args in
    c.upper_s.ensures ∙ at-letter 0x53 a.first a.rest.now c.in-83.is

pub returns-in-84 : goal.returns-in-84
unfolding letters
returns-in-84 c =
    let a = c.args in
    c.upper_t.ensures ∙ at-letter 0x54 a.first a.rest.now c.in-84.is

pub returns-in-85 : goal.returns-in-85
unfolding letters
returns-in-85 c =
    let a = c.args in
    c.upper_u.ensures ∙ at-letter 0x55 a.first a.rest.now c.in-85.is

pub returns-in-86 : goal.returns-in-86
unfolding letters
returns-in-86 c =
    let a = c.args in
    c.upper_v.ensures ∙ at-letter 0x56 a.first a.rest.now c.in-86.is

pub returns-in-87 : goal.returns-in-87
unfolding letters
returns-in-87 c =
    let a = c.args in
    c.upper_w.ensures ∙ at-letter 0x57 a.first a.rest.now c.in-87.is

pub returns-in-88 : goal.returns-in-88
unfolding letters
returns-in-88 c =
    let a = c.args in
    c.upper_x.ensures ∙ at-letter 0x58 a.first a.rest.now c.in-88.is

pub returns-in-89 : goal.returns-in-89
unfolding letters
returns-in-89 c =
    let a = c.args in
    c.upper_y.ensures ∙ at-letter 0x59 a.first a.rest.now c.in-89.is

pub returns-in-90 : goal.returns-in-90
unfolding letters
returns-in-90 c =
    let a = c.args in
    c.upper_z.ensures ∙ at-letter 0x5A a.first a.rest.now c.in-90.is

pub returns-in-97 : goal.returns-in-97
unfolding letters
returns-in-97 c =
    let a = c.args in
    c.lower_a.ensures ∙ at-letter 0x61 a.first a.rest.now c.in-97.is

pub returns-in-98 : goal.returns-in-98
unfolding letters
returns-in-98 c =
    let a = c.args in
    c.lower_b.ensures ∙ at-letter 0x62 a.first a.rest.now c.in-98.is

pub returns-in-99 : goal.returns-in-99
unfolding letters
returns-in-99 c =
    let a = c.args in
    c.lower_c.ensures ∙ at-letter 0x63 a.first a.rest.now c.in-99.is

pub returns-in-100 : goal.returns-in-100
unfolding letters
returns-in-100 c =
    let a = c.args in
    c.lower_d.ensures ∙ at-letter 0x64 a.first a.rest.now c.in-100.is

pub returns-in-101 : goal.returns-in-101
unfolding letters
returns-in-101 c =
    let a = c.args in
    c.lower_e.ensures ∙ at-letter 0x65 a.first a.rest.now c.in-101.is

pub returns-in-102 : goal.returns-in-102
unfolding letters
returns-in-102 c =
    let a = c.args in
    c.lower_f.ensures ∙ at-letter 0x66 a.first a.rest.now c.in-102.is

pub returns-in-103 : goal.returns-in-103
unfolding letters
returns-in-103 c =
    let a = c.args in
    c.lower_g.ensures ∙ at-letter 0x67 a.first a.rest.now c.in-103.is

pub returns-in-104 : goal.returns-in-104
unfolding letters
returns-in-104 c =
    let a = c.args in
    c.lower_h.ensures ∙ at-letter 0x68 a.first a.rest.now c.in-104.is

pub returns-in-105 : goal.returns-in-105
unfolding letters
returns-in-105 c =
    let a = c.args in
    c.lower_i.ensures ∙ at-letter 0x69 a.first a.rest.now c.in-105.is

pub returns-in-106 : goal.returns-in-106
unfolding letters
returns-in-106 c =
    let a = c.args in
    c.lower_j.ensures ∙ at-letter 0x6A a.first a.rest.now c.in-106.is

pub returns-in-107 : goal.returns-in-107
unfolding letters
returns-in-107 c =
    let a = c.args in
    c.lower_k.ensures ∙ at-letter 0x6B a.first a.rest.now c.in-107.is

pub returns-in-108 : goal.returns-in-108
unfolding letters
returns-in-108 c =
    let a = c.args in
    c.lower_l.ensures ∙ at-letter 0x6C a.first a.rest.now c.in-108.is

pub returns-in-109 : goal.returns-in-109
unfolding letters
returns-in-109 c =
    let a = c.args in
    c.lower_m.ensures ∙ at-letter 0x6D a.first a.rest.now c.in-109.is

pub returns-in-110 : goal.returns-in-110
unfolding letters
returns-in-110 c =
    let a = c.args in
    c.lower_n.ensures ∙ at-letter 0x6E a.first a.rest.now c.in-110.is

pub returns-in-111 : goal.returns-in-111
unfolding letters
returns-in-111 c =
    let a = c.args in
    c.lower_o.ensures ∙ at-letter 0x6F a.first a.rest.now c.in-111.is

pub returns-in-112 : goal.returns-in-112
unfolding letters
returns-in-112 c =
    let a = c.args in
    c.lower_p.ensures ∙ at-letter 0x70 a.first a.rest.now c.in-112.is

pub returns-in-113 : goal.returns-in-113
unfolding letters
returns-in-113 c =
    let a = c.args in
    c.lower_q.ensures ∙ at-letter 0x71 a.first a.rest.now c.in-113.is

pub returns-in-114 : goal.returns-in-114
unfolding letters
returns-in-114 c =
    let a = c.args in
    c.lower_r.ensures ∙ at-letter 0x72 a.first a.rest.now c.in-114.is

pub returns-in-115 : goal.returns-in-115
unfolding letters
returns-in-115 c =
    let a = c.args in
    c.lower_s.ensures ∙ at-letter 0x73 a.first a.rest.now c.in-115.is

pub returns-in-116 : goal.returns-in-116
unfolding letters
returns-in-116 c =
    let a = c.args in
    c.lower_t.ensures ∙ at-letter 0x74 a.first a.rest.now c.in-116.is

pub returns-in-117 : goal.returns-in-117
unfolding letters
returns-in-117 c =
    let a = c.args in
    c.lower_u.ensures ∙ at-letter 0x75 a.first a.rest.now c.in-117.is

pub returns-in-118 : goal.returns-in-118
unfolding letters
returns-in-118 c =
    let a = c.args in
    c.lower_v.ensures ∙ at-letter 0x76 a.first a.rest.now c.in-118.is

pub returns-in-119 : goal.returns-in-119
unfolding letters
returns-in-119 c =
    let a = c.args in
    c.lower_w.ensures ∙ at-letter 0x77 a.first a.rest.now c.in-119.is

pub returns-in-120 : goal.returns-in-120
unfolding letters
returns-in-120 c =
    let a = c.args in
    c.lower_x.ensures ∙ at-letter 0x78 a.first a.rest.now c.in-120.is

pub returns-in-121 : goal.returns-in-121
unfolding letters
returns-in-121 c =
    let a = c.args in
    c.lower_y.ensures ∙ at-letter 0x79 a.first a.rest.now c.in-121.is

pub returns-in-122 : goal.returns-in-122
unfolding letters
returns-in-122 c =
    let a = c.args in
    c.lower_z.ensures ∙ at-letter 0x7A a.first a.rest.now c.in-122.is

pub returns-in_default : goal.returns-in_default
unfolding letters
returns-in_default c =
    let a = c.args in
    no-letter a.first a.rest.now (rest-none a.first _ (map (λ (pair : ℕ × List Row). pair.0) letters) c.in_default.in_default-own.rest)
